-- A line is its two parts, around the second item.
use Rattle.std.proofs.Common.{◌≡◌, ℕ, List, [], ◌∷◌, ◌++◌, true, false, Bool, refl, ap, ◌∙◌, append_assoc, append-nil, codes, if◌then◌else◌}
use Rattle.std.specs.Prelude.{decimal}
use Rattle.findings.specs.declared.finding.Dep.{Dep}
use Rattle.findings.specs.Texts.{dep_line, line_text}
use Rattle.dep_lines.specs.Parts.{front_text, back_text}

-- The bytes of a line around some numbers.
around : (word a b tree point field : List ℕ)
    → (word ++ 32 ∷ []) ++ a ++ codes " " ++ b
    ++ (codes " tree " ++ tree ++ codes " point " ++ point ++ codes " field " ++ field ++ codes "\n")
    ≡ word ++ 32 ∷ (a ++ 32 ∷ (b ++ 32 ∷ (codes "tree" ++ 32 ∷ (tree ++ 32 ∷ (codes "point" ++ 32 ∷ (point ++ 32 ∷ (codes "field" ++ 32 ∷ (field ++ [])))))))) ++ 10 ∷ []
around word a b tree point field = simp (append_assoc, append-nil)

word : (before : Bool) → (if before then codes "before " else codes "turn ") ≡ (if before then codes "before" else codes "turn") ++ 32 ∷ []
word true = refl
word false = refl

pub parts_joined : (d : Dep) → front_text d ++ decimal d.b ++ back_text d ≡ line_text (dep_line d) ++ 10 ∷ []
parts_joined d =
    ap (λ w. w ++ decimal d.a ++ codes " " ++ decimal d.b ++ back_text d) (word d.before)
    ∙ around (if d.before then codes "before" else codes "turn") (decimal d.a) (decimal d.b) (decimal d.tree) (decimal d.point) (decimal d.field)

-- What was joined is the line.
pub joined_line : (d : Dep) (front back line : List ℕ) → front ≡ front_text d → back ≡ back_text d → line ≡ front ++ decimal d.b ++ back
    → line ≡ line_text (dep_line d) ++ 10 ∷ []
joined_line d front back line first last is =
    is ∙ ap (λ w. w ++ decimal d.b ++ back) first ∙ ap (λ w. front_text d ++ decimal d.b ++ w) last ∙ parts_joined d
