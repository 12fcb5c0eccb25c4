-- What a table contains, message by message, and the recursion of OM(m) over it.
use Rattle.std.proofs.Common.{ℕ, zero, suc, ◌+◌, ◌≡◌, ◌≢◌, Bool, true, false, ◌&&◌, List, [], ◌∷◌, ◌++◌, map, take, length, refl, sym, ap, ◌∙◌, arith, inl, inr, Option, Some, None}
use Rattle.std.specs.Prelude.{◌==◌, bytes_eq, find, option_map, slice_get}
use Rattle.std.proofs.lemmas.Bool.{cases_Bool, cond-true, cond-false, eq-eqb, ne_eqb}
use Rattle.combine.specs.Rule.{combined_by}
use Rattle.label.specs.Labels.{on, others}
use Rattle.label.specs.Oral.{om, order_of, taken}
use Rattle.book.specs.declared.message.Message.{Message}
use Rattle.book.specs.Table.{MessageTable, is_about, told}
use Rattle.book.specs.Explained.{decided, element}
use Rattle.book.proofs.Gathering.{map_yes}

none_some : (x : Message) → Some x ≡ None → ⊥
none_some x e = cc

-- These messages fail the test, and the next one passes it.
found_first : (t : Message → Bool) (xs : List Message) (i : ℕ) (x : Message) → find t (take i xs) ≡ None → slice_get xs i ≡ Some x → t x ≡ true → find t xs ≡ Some x
found_first t [] i x none at passes = cc
found_first t (y ∷ ys) zero x none at passes =
    let same : y ≡ x = cc in
    cond-true (t y) (Some y) (find t ys) (ap t same ∙ passes) ∙ ap (λ (z : Message). Some z) same
found_first t (y ∷ ys) (suc i) x none at passes = elim (cases_Bool (t y)) [
  | inl here ↦ absurd (none_some y (sym (cond-true (t y) (Some y) (find t (take i ys)) here) ∙ none))
  | inr apart ↦
      cond-false (t y) (Some y) (find t ys) apart
      ∙ found_first t ys i x (sym (cond-false (t y) (Some y) (find t (take i ys)) apart) ∙ none) at passes
]

none_more : (t : Message → Bool) (xs : List Message) (i : ℕ) (x : Message) → find t (take i xs) ≡ None → slice_get xs i ≡ Some x → t x ≡ false → find t (take (suc i) xs) ≡ None
none_more t [] i x none at fails = cc
none_more t (y ∷ ys) zero x none at fails =
    let same : y ≡ x = cc in
    cond-false (t y) (Some y) None (ap t same ∙ fails)
none_more t (y ∷ ys) (suc i) x none at fails = elim (cases_Bool (t y)) [
  | inl here ↦ absurd (none_some y (sym (cond-true (t y) (Some y) (find t (take i ys)) here) ∙ none))
  | inr apart ↦
      cond-false (t y) (Some y) (find t (take (suc i) ys)) apart
      ∙ none_more t ys i x (sym (cond-false (t y) (Some y) (find t (take i ys)) apart) ∙ none) at fails
]

all_taken : (xs : List Message) (i : ℕ) → i ≡ length xs → take i xs ≡ xs
all_taken [] zero e = refl
all_taken [] (suc i) e = refl
all_taken (x ∷ xs) zero e = absurd (omega arith)
all_taken (x ∷ xs) (suc i) e = ap (λ ys. x ∷ ys) (all_taken xs i (omega arith))

-- The first message about a place has the order that its receiver took.
pub first_taken : (messages : List Message) (w : List ℕ) (p i : ℕ) (x : Message) → find (is_about w p) (take i messages) ≡ None → slice_get messages i ≡ Some x → x.receiver ≡ p → bytes_eq x.label w ≡ true → x.order ≡ taken (told messages) w p
unfolding told
first_taken messages w p i x none at receiver label =
    let about : is_about w p x ≡ true = rw (eq-eqb x.receiver p receiver, label) refl in
    sym (ap (λ (o : Option Message). order_of (option_map (λ message. message.order) o)) (found_first (is_about w p) messages i x none at about))

-- A message with another label, or to another receiver.
pub other_label : (messages : List Message) (w : List ℕ) (p i : ℕ) (x : Message) → find (is_about w p) (take i messages) ≡ None → slice_get messages i ≡ Some x → bytes_eq x.label w ≡ false → find (is_about w p) (take (suc i) messages) ≡ None
other_label messages w p i x none at label = none_more (is_about w p) messages i x none at (never (x.receiver == p) (bytes_eq x.label w) label)
  where
    never : (a b : Bool) → b ≡ false → (a && b) ≡ false
    never true b e = e
    never false b e = refl

pub other_receiver : (messages : List Message) (w : List ℕ) (p i : ℕ) (x : Message) → find (is_about w p) (take i messages) ≡ None → slice_get messages i ≡ Some x → x.receiver ≢ p → find (is_about w p) (take (suc i) messages) ≡ None
other_receiver messages w p i x none at receiver = none_more (is_about w p) messages i x none at (rw (ne_eqb x.receiver p receiver) refl)

-- If no message is about a place, RETREAT is taken.
pub none_taken : (messages : List Message) (w : List ℕ) (p i : ℕ) → i ≡ length messages → find (is_about w p) (take i messages) ≡ None → 0 ≡ taken (told messages) w p
unfolding told
none_taken messages w p i all none =
    sym (ap (λ (o : Option Message). order_of (option_map (λ message. message.order) o)) (ap (find (is_about w p)) (sym (all_taken messages i all)) ∙ none))

-- A lieutenant's own item in the list that he combines, and another general's.
pub own_element : (t : MessageTable) (k : ℕ) (w : List ℕ) (p j v : ℕ) → j ≡ p → v ≡ taken (told t.messages) w p → v ≡ element t k w p j
own_element t k w p j v same is = is ∙ sym (cond-true (j == p) (taken (told t.messages) w p) (decided t k (w ++ j ∷ []) p) (eq-eqb j p same))

pub other_element : (t : MessageTable) (k : ℕ) (w : List ℕ) (p j v : ℕ) → j ≢ p → v ≡ decided t k (w ++ j ∷ []) p → v ≡ element t k w p j
other_element t k w p j v ne is = is ∙ sym (cond-false (j == p) (taken (told t.messages) w p) (decided t k (w ++ j ∷ []) p) (ne_eqb j p ne))

-- One more item.
pub element_more : (t : MessageTable) (k : ℕ) (w : List ℕ) (p j v : ℕ) → on w j ≡ false → v ≡ element t k w p j → map (element t k w p) (others j w) ++ v ∷ [] ≡ map (element t k w p) (others (j + 1) w)
element_more t k w p j v off is = ap (λ x. map (element t k w p) (others j w) ++ x ∷ []) is ∙ sym (map_yes (element t k w p) w j off)

-- The label cannot be extended.
pub decided_last : (t : MessageTable) (r : ℕ) (w : List ℕ) (p v : ℕ) → r ≡ 0 → v ≡ taken (told t.messages) w p → v ≡ decided t r w p
unfolding om
decided_last t zero w p v e is = is
decided_last t (suc k) w p v e is = absurd (omega arith)

-- The combination of the whole list.
pub decided_all : (t : MessageTable) (r k : ℕ) (w : List ℕ) (p j : ℕ) (orders : List ℕ) → r ≡ suc k → j ≡ t.generals → orders ≡ map (element t k w p) (others j w) → combined_by t.rule orders ≡ decided t r w p
unfolding om
decided_all t r k w p j orders more all e =
    ap (combined_by t.rule) (e ∙ ap (λ (n : ℕ). map (element t k w p) (others n w)) all) ∙ sym (ap (λ (n : ℕ). decided t n w p) more)
