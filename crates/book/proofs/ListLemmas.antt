-- The list that a lieutenant combines at a label, item by item.
use Rattle.std.proofs.Common.{ℕ, zero, suc, ◌+◌, ◌≡◌, ◌≢◌, true, false, List, [], ◌∷◌, ◌++◌, map, refl, sym, ap, ◌∙◌, arith, append_assoc, Option, Some, None}
use Rattle.std.specs.Prelude.{◌==◌, unwrap_or}
use Rattle.std.specs.List.{flat_map}
use Rattle.std.proofs.lemmas.Bool.{cond-true, cond-false, eq-eqb, ne_eqb}
use Rattle.combine.specs.Rule.{combined_by, outcome_of}
use Rattle.label.specs.Labels.{on, others}
use Rattle.label.specs.Oral.{order_of, taken, om}
use Rattle.book.specs.Table.{MessageTable, told}
use Rattle.combine.specs.Outcome.{outcome_words}
use Rattle.book.specs.Explained.{list_words, decided, element, held, part, list_line, list_lines}
use Rattle.book.specs.Decisions.{decision_of}
use Rattle.book.specs.Grammar.{is_place}
use Rattle.book.specs.Laws.{IsMessage}
use Rattle.book.proofs.Gathering.{map_yes}
use Rattle.book.proofs.WholeLemmas.{place_message}

-- No order counts as RETREAT.
unwrapped : (o : Option ℕ) → unwrap_or o 0 ≡ order_of o
unwrapped None = refl
unwrapped (Some v) = refl

-- The order that he holds counts as the one that he decides on.
pub held_order : (t : MessageTable) (k : ℕ) (w : List ℕ) (p : ℕ) → unwrap_or (held t k w p) 0 ≡ decided t k w p
unfolding held om
held_order t zero w p = unwrapped (told t.messages w p)
held_order t (suc k) w p = refl

-- His own item.
pub own_more : (t : MessageTable) (k : ℕ) (w : List ℕ) (p j : ℕ) (o : Option ℕ) → j ≡ p → on w p ≡ false → o ≡ told t.messages w p → map (element t k w p) (others j w) ++ unwrap_or o 0 ∷ [] ≡ map (element t k w p) (others (j + 1) w)
own_more t k w p j o same off is =
    let here : on w j ≡ false = rw same off in
    let own : element t k w p j ≡ unwrap_or o 0 = cond-true (j == p) (taken (told t.messages) w p) (decided t k (w ++ j ∷ []) p) (eq-eqb j p same) ∙ (sym (unwrapped (told t.messages w p)) ∙ ap (λ (x : Option ℕ). unwrap_or x 0) (sym is)) in
    ap (λ x. map (element t k w p) (others j w) ++ x ∷ []) (sym own) ∙ sym (map_yes (element t k w p) w j here)

-- The item of another general.
pub other_more : (t : MessageTable) (k : ℕ) (w : List ℕ) (p j : ℕ) (o : Option ℕ) → j ≢ p → on w j ≡ false → o ≡ held t k (w ++ j ∷ []) p → map (element t k w p) (others j w) ++ unwrap_or o 0 ∷ [] ≡ map (element t k w p) (others (j + 1) w)
other_more t k w p j o ne off is =
    let his : element t k w p j ≡ unwrap_or o 0 = cond-false (j == p) (taken (told t.messages) w p) (decided t k (w ++ j ∷ []) p) (ne_eqb j p ne) ∙ (sym (held_order t k (w ++ j ∷ []) p) ∙ ap (λ (x : Option ℕ). unwrap_or x 0) (sym is)) in
    ap (λ x. map (element t k w p) (others j w) ++ x ∷ []) (sym his) ∙ sym (map_yes (element t k w p) w j off)

-- The label cannot be extended.
pub held_last : (t : MessageTable) (r : ℕ) (w : List ℕ) (p : ℕ) → r ≡ 0 → told t.messages w p ≡ held t r w p
unfolding held
held_last t zero w p e = refl
held_last t (suc k) w p e = absurd (omega arith)

pub lines_last : (t : MessageTable) (r : ℕ) (w : List ℕ) (p : ℕ) → r ≡ 0 → list_lines t r w p ≡ []
unfolding list_lines
lines_last t zero w p e = refl
lines_last t (suc k) w p e = absurd (omega arith)

-- The outcome of the whole list.
pub held_all : (t : MessageTable) (r k : ℕ) (w : List ℕ) (p j : ℕ) (orders : List ℕ) → r ≡ suc k → j ≡ t.generals → orders ≡ map (element t k w p) (others j w) → Some (combined_by t.rule orders) ≡ held t r w p
unfolding held om
held_all t r k w p j orders more all e =
    ap (λ xs. Some (combined_by t.rule xs)) (e ∙ ap (λ (n : ℕ). map (element t k w p) (others n w)) all) ∙ sym (ap (λ (n : ℕ). held t n w p) more)

-- The lines, with the one of the label.
pub lines_all : (t : MessageTable) (r k : ℕ) (w : List ℕ) (p j : ℕ) (old new lines parts out orders : List ℕ) (o : Option ℕ) → r ≡ suc k → j ≡ t.generals
    → lines ≡ old ++ flat_map (λ i. list_lines t k (w ++ i ∷ []) p) (others j (p ∷ w))
    → parts ≡ flat_map (part t k w p) (others j (p ∷ w))
    → orders ≡ map (element t k w p) (others j w)
    → out ≡ outcome_words (outcome_of t.rule orders)
    → o ≡ told t.messages w p
    → new ≡ lines ++ list_words w o parts out
    → new ≡ old ++ list_lines t r w p
unfolding list_lines
lines_all t r k w p j old new lines parts out orders o more all el ep eo eu et e =
    let below : List ℕ = flat_map (λ i. list_lines t k (w ++ i ∷ []) p) (others t.generals (p ∷ w)) in
    let here : list_words w o parts out ≡ list_line t k w p = rw (ep, eu, eo, et, all) refl in
    e ∙ (ap (λ xs. lines ++ xs) here ∙ (ap (λ xs. xs ++ list_line t k w p) (el ∙ ap (λ (n : ℕ). old ++ flat_map (λ i. list_lines t k (w ++ i ∷ []) p) (others n (p ∷ w))) all)
    ∙ (append_assoc old below (list_line t k w p) ∙ sym (ap (λ (n : ℕ). old ++ list_lines t n w p) more))))

-- A receiver is not on the label.
pub place_off : (t : MessageTable) (w : List ℕ) (p : ℕ) → is_place t w p ≡ true → on w p ≡ false
place_off t w p e =
    let said : IsMessage t.generals t.bound t.commander (record { label = w; receiver = p; order = 0 }) = place_message t (record { label = w; receiver = p; order = 0 }) e (omega arith) in
    said.off

-- The order that a lieutenant holds for the commander's label is his decision.
pub held_decides : (t : MessageTable) (m : ℕ) (w : List ℕ) (p : ℕ) (o : Option ℕ) (d : ℕ) → m ≡ t.bound → w ≡ t.commander ∷ [] → o ≡ held t m w p → d ≡ unwrap_or o 0 → d ≡ decision_of t p
unfolding decision_of
held_decides t m w p o d em ew eo ed =
    ed
    ∙ (ap (λ (x : Option ℕ). unwrap_or x 0) (eo ∙ (ap (λ (k : ℕ). held t k w p) em ∙ ap (λ (v : List ℕ). held t t.bound v p) ew))
    ∙ held_order t t.bound (t.commander ∷ []) p)
