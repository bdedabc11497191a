-- A record that was taken apart into cells, and one that is put together.
use Rattle.std.proofs.Common.{◌≡◌, ℕ, List, [], ◌∷◌, ◌++◌, ◌-◌, ◌≤◌, map, length, take, drop, get_or, arith, refl, sym, ap, ◌∙◌, append_assoc, append-nil}
use Rattle.std.specs.Prelude.{decimal}
use Rattle.std.proofs.lemmas.List.{take_all}
use Rattle.spy_words.specs.Classes.{follow}
use Rattle.spy_words.proofs.lemmas.Joins.{join_follow}
use Rattle.spy_grammar.specs.declared.cells.WordCell.{WordCell}
use Rattle.spy_grammar.specs.declared.cells.WordCell.TheVariants as cells
use Rattle.spy_grammar.specs.declared.kinds.RecordKind.{RecordKind}
use Rattle.spy_grammar.specs.declared.record.Record.{Record}
use Rattle.spy_grammar.specs.Rows.{Row, RowMeaning, Makes, entry, plain_log, applied, parts_of}
use Rattle.spy_grammar.specs.Reading.{Left, read_row, read_record}
use Rattle.spy_grammar.specs.Spelling.{Item, row_items, items_of, words_in, spelling}
use Rattle.spy_grammar.specs.Cells.{with_cell, items_in, parts_items}

pub parts_told : (k : RecordKind) (m : RowMeaning (entry k).row) → parts_items (k, m) ≡ row_items (entry k).row m
unfolding parts_items
parts_told k m = refl

pub record_told : {R : Type 0} (name : List ℕ) (r : Row) (make : Makes R r) (s : Left)
    → read_record (record { name = name; row = r; record_of = make }) s ≡ (applied r make (read_row r s).0, (read_row r s).1)
unfolding read_record
record_told name r make s = refl

-- a record's line: its name, and each other word after a space
pub spelled : (r : Record) → spelling r ≡ (entry (parts_of r).0).name ++ follow 32 (words_in (parts_items (parts_of r)))
unfolding spelling parts_items
spelled r = join_follow 32 (entry (parts_of r).0).name (words_in (items_of plain_log r))

follow-append : (c : ℕ) (ws vs : List (List ℕ)) → follow c (ws ++ vs) ≡ follow c ws ++ follow c vs
follow-append c [] vs = refl
follow-append c (w ∷ ws) vs = ap (λ (x : List ℕ). c ∷ w ++ x) (follow-append c ws vs)
    ∙ ap (λ (x : List ℕ). c ∷ x) (sym (append_assoc w (follow c ws) (follow c vs)))

words-cell : (cell : WordCell) (is : List Item) → words_in (with_cell cell is) ≡ words_in (with_cell cell []) ++ words_in is
words-cell (cells.Ids ns) is = ap (λ ws. ws ++ words_in is) (sym (append-nil (map decimal ns.now)))
words-cell cell is = refl

-- the words of one cell more were written
pub cell_written : (before out all : List ℕ) (cs : List WordCell) (d : WordCell) → 1 ≤ length cs
    → before ++ follow 32 (words_in (items_in cs)) ≡ all → out ≡ before ++ follow 32 (words_in (with_cell (get_or cs 0 d) []))
    → out ++ follow 32 (words_in (items_in (take (length cs - 1) (drop 1 cs)))) ≡ all
cell_written before out all [] d some whole is = absurd (omega arith)
cell_written before out all (c ∷ cs) d some whole is =
    let rest : take (length (c ∷ cs) - 1) cs ≡ cs = take_all _ cs (omega arith) in
    let split = ap (follow 32) (words-cell c (items_in cs)) ∙ follow-append 32 (words_in (with_cell c [])) (words_in (items_in cs)) in
    rw (rest, is, append_assoc) (ap (λ (x : List ℕ). before ++ x) (sym split) ∙ whole)
