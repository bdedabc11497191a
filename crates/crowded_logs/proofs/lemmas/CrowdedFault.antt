-- The fault of a crowded log, told by what is kept of it.
use Rattle.std.proofs.Common.{◌≡◌, ℕ, ◌+◌, arith, List, [], length, Option, Some, None, refl, sym, ap, ◌∙◌}
use Rattle.std.specs.Option.{option_or}
use Rattle.std.proofs.lemmas.List.{length-append}
use Rattle.vocabulary.specs.Prelude.{Lined, records_of}
use Rattle.semantics.specs.Faults.{count_fault, declaration_fault, ended_fault, header_fault, records_fault}
use Rattle.crowded_logs.specs.declared.frame.Frame.{Frame}
use Rattle.crowded_logs.specs.Crowded.{IsKeptAs}
use Rattle.crowded_logs.specs.Noted.{frame_fault}
use Rattle.crowded_logs.proofs.Crowding.{fault_kept, header_kept, some_kept}
use Rattle.crowded_logs.proofs.Framing.{frame_told}
use Rattle.list_lemmas.proofs.lemmas.Firsts.{or_alike}
use Rattle.list_lemmas.proofs.lemmas.Contained.{both_none}

-- The first of three faults, or else that of the records.
tried : {X : Type 0} (header ended count records : Option X)
    → option_or header (option_or ended (option_or count records)) ≡ option_or (option_or header (option_or ended count)) records
tried None None count records = refl
tried None (Some f) count records = refl
tried (Some f) ended count records = refl

module _ (lines : ℕ) (log kept : List Lined) (frame : Frame) (told : IsKeptAs log kept frame) where
  frame_is_told : option_or (header_fault lines log) (option_or (ended_fault lines log) (count_fault log)) ≡ frame_fault lines frame
  frame_is_told =
      let k = told.is_kept in
      let many : length log ≡ length k.first + length k.later = ap length k.log_is ∙ length-append k.first k.later in
      frame_told lines log (omega (arith, many, k.many)) ∙ ap (frame_fault lines) (sym told.frame_is)

  pub fault_told : declaration_fault lines log ≡ option_or (frame_fault lines frame) (records_fault (records_of kept) [] kept)
  fault_told =
      let records = records_fault (records_of log) [] log in
      tried (header_fault lines log) (ended_fault lines log) (count_fault log) records
      ∙ ap (λ o. option_or o records) frame_is_told
      ∙ or_alike (frame_fault lines frame) records (records_fault (records_of kept) [] kept)
      (λ none. fault_kept lines log kept told.is_kept (no_end_fault none))
    where
      no_end_fault : frame_fault lines frame ≡ None → ended_fault lines log ≡ None
      no_end_fault none = (both_none (ended_fault lines log) (count_fault log)
          (both_none (header_fault lines log) _ (frame_is_told ∙ none)).1).0

  pub some_told : frame_fault lines frame ≡ None → records_fault (records_of kept) [] kept ≡ None → ⊥
  some_told none = some_kept lines log kept told.is_kept
      (both_none (ended_fault lines log) (count_fault log) (both_none (header_fault lines log) _ (frame_is_told ∙ none)).1).0

  pub header_told : frame_fault lines frame ≡ None → header_fault 0 kept ≡ None
  header_told none = header_kept lines log kept told.is_kept (both_none (header_fault lines log) _ (frame_is_told ∙ none)).0
