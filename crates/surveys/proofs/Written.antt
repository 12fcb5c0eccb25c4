-- The text that is written for campaigns of a family is a valid part of a survey.
use Rattle.std.proofs.Common.{ℕ, ◌≡◌, ◌<◌, ◌^◌, List, [], ◌∷◌, ◌++◌, map, refl, ap, arith, codes, Option, None, Some}
use Rattle.std.specs.Prelude.{◌==◌, Bool, true, false, cond, decimal, flat_map, IfSome, not}
use Rattle.combine.specs.Rule.{rule_name}
use Rattle.book.proofs.RuleNames.{name_lacks_feed}
use Rattle.text.proofs.BytesLemmas.{all-append}
use Rattle.surveys.specs.declared.finding.Finding.{Finding}
use Rattle.surveys.specs.declared.manner.Manner.{Manner}
use Rattle.surveys.specs.declared.manner.Manner.TheVariants.{Oral, Signed}
use Rattle.surveys.specs.Family.{Family}
use Rattle.surveys.specs.Heads.{IsTold, adversary_word, commander_text, head_text, line_word, manner_word, orders_text, patience_word}
use Rattle.surveys.specs.Laws.{WrittenAreParts}
use Rattle.surveys.specs.Lines.{line_text}
use Rattle.surveys.specs.Parts.{IsHeadLine, IsLine, IsUnfed, found_in, row_text}
use Rattle.surveys.proofs.Walks.{decimal_unfed, member_line}

manner_unfed : (m : Manner) → IsUnfed (manner_word m)
manner_unfed (Oral rule) = all-append (λ c. not (c == 10)) (codes "\"") (rule_name rule ++ codes "\"") refl (all-append (λ c. not (c == 10)) (rule_name rule) (codes "\"") (name_lacks_feed rule) refl)
manner_unfed Signed = refl

line_unfed : (b : Bool) → IsUnfed (line_word b)
line_unfed true = refl
line_unfed false = refl

patience_unfed : (p : Option ℕ) → IfSome p (λ steps. steps < 2 ^ 64) → IsUnfed (patience_word p)
patience_unfed None h = refl
patience_unfed (Some steps) h = decimal_unfed steps h

small_unfed : (n : ℕ) → n < 256 → IsUnfed (decimal n)
small_unfed n lt = decimal_unfed n (omega arith)

commander_line : (b : Bool) (c : ℕ) (behind : List ℕ) → c < 256 → IsLine behind → IsLine (cond b [] (codes ",\"commander\":" ++ decimal c) ++ behind)
commander_line true c behind lt h = h
commander_line false c behind lt h = member_line (codes ",\"commander\"") (decimal c) behind refl (small_unfed c lt) h

orders_line : (b : Bool) (v : ℕ) (behind : List ℕ) → v < 256 → IsLine behind → IsLine (cond b [] (codes ",\"orders\":" ++ decimal v) ++ behind)
orders_line true v behind lt h = h
orders_line false v behind lt h = member_line (codes ",\"orders\"") (decimal v) behind refl (small_unfed v lt) h

head_line : (f : Family) → IsTold f → IsUnfed (adversary_word f.adversary) → IsHeadLine (head_text f)
head_line f h free =
    let end : IsLine (codes "}\n") = record { front = 125 ∷ []; free = refl; whole = refl } in
    record {
      begins = refl;
      line =
          member_line (codes "{\"adversary\"") (adversary_word f.adversary) _ refl free
          (member_line (codes ",\"bound_high\"") (decimal f.bound.high) _ refl (small_unfed f.bound.high h.bound.1)
          (member_line (codes ",\"bound_low\"") (decimal f.bound.low) _ refl (small_unfed f.bound.low h.bound.0)
          (commander_line (f.commander == 0) f.commander _ h.commander
          (member_line (codes ",\"generals_high\"") (decimal f.generals.high) _ refl (small_unfed f.generals.high h.generals.1)
          (member_line (codes ",\"generals_low\"") (decimal f.generals.low) _ refl (small_unfed f.generals.low h.generals.0)
          (member_line (codes ",\"line\"") (line_word f.grid) _ refl (line_unfed f.grid)
          (member_line (codes ",\"manner\"") (manner_word f.manner) _ refl (manner_unfed f.manner)
          (orders_line (f.orders == 1) f.orders _ h.orders
          (member_line (codes ",\"patience\"") (patience_word f.patience) _ refl (patience_unfed f.patience h.patience)
          (member_line (codes ",\"traitors_high\"") (decimal f.traitors.high) _ refl (small_unfed f.traitors.high h.traitors.1)
          (member_line (codes ",\"traitors_low\"") (decimal f.traitors.low) _ refl (small_unfed f.traitors.low h.traitors.0) end)))))))))));
    }

rows_text : (head : List ℕ) (found : List Finding) → flat_map line_text found ≡ flat_map (row_text head) (map Some found)
rows_text head [] = refl
rows_text head (f ∷ found) = ap (λ (l : List ℕ). line_text f ++ l) (rows_text head found)

rows_found : (found : List Finding) → found ≡ found_in (map Some found)
rows_found [] = refl
rows_found (f ∷ found) = ap (λ (l : List Finding). f ∷ l) (rows_found found)

pub written_law : WrittenAreParts
written_law = record {
  heads = head_line;
  parts = λ f found h. record { rows = None ∷ map Some found; led = h; whole = ap (λ (l : List ℕ). head_text f ++ l) (rows_text (head_text f) found); told = rows_found found };
}
