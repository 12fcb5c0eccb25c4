-- What messages contain, with one more message.
use Rattle.std.proofs.Common.{◌≡◌, ◌≢◌, ℕ, Bool, true, false, cond, ◌&&◌, List, [], ◌∷◌, ◌++◌, refl, sym, ap, ◌∙◌, inl, inr, Some, None}
use Rattle.std.specs.Prelude.{find, bytes_eq, is_some, option_map, ◌==◌}
use Rattle.std.specs.List.{list_any}
use Rattle.std.proofs.lemmas.Bool.{cases_Bool, cond-true, cond-false, and_from, eq-eqb, or_parts, ne_eqb, true≢false}
use Rattle.std.proofs.lemmas.Slice.Eq.{bytes_eq-Decides}
use Rattle.tree.specs.LieutenantTree.{told_also}
use Rattle.book.specs.declared.message.Message.{Message}
use Rattle.book.specs.Table.{is_about, told}
use Rattle.book.proofs.WholeLemmas.{bytes_sym}

-- If no message passes the test, none is found.
none_any : (t : Message → Bool) (xs : List Message) → list_any t xs ≡ false → find t xs ≡ None
none_any t [] e = refl
none_any t (x ∷ xs) e =
    let both = or_parts (t x) (list_any t xs) e in
    cond-false (t x) (Some x) (find t xs) both.0 ∙ none_any t xs both.1

-- One more message that passes, after some that do not.
find_last : (t : Message → Bool) (xs : List Message) (y : Message) → list_any t xs ≡ false → t y ≡ true → find t (xs ++ y ∷ []) ≡ Some y
find_last t [] y e passes = cond-true (t y) (Some y) None passes
find_last t (x ∷ xs) y e passes =
    let both = or_parts (t x) (list_any t xs) e in
    cond-false (t x) (Some x) (find t (xs ++ y ∷ [])) both.0 ∙ find_last t xs y both.1 passes

-- One more message that does not pass.
find_other : (t : Message → Bool) (xs : List Message) (y : Message) → t y ≡ false → find t (xs ++ y ∷ []) ≡ find t xs
find_other t [] y fails = cond-false (t y) (Some y) None fails
find_other t (x ∷ xs) y fails = ap (cond (t x) (Some x)) (find_other t xs y fails)

-- The place of the message has its order.
pub told_here : (messages : List Message) (said : Message) → list_any (is_about said.label said.receiver) messages ≡ false → told (messages ++ said ∷ []) said.label said.receiver ≡ Some said.order
unfolding told
told_here messages said fresh =
    ap (option_map (λ message. message.order)) (find_last (is_about said.label said.receiver) messages said fresh (and_from (said.receiver == said.receiver) (bytes_eq said.label said.label) (eq-eqb said.receiver said.receiver refl) ((bytes_eq-Decides said.label said.label).1 refl)))

-- Other places have what they had.
pub told_elsewhere : (messages : List Message) (said : Message) (w : List ℕ) (p : ℕ) → is_about w p said ≡ false → told (messages ++ said ∷ []) w p ≡ told messages w p
unfolding told
told_elsewhere messages said w p apart = ap (option_map (λ message. message.order)) (find_other (is_about w p) messages said apart)

-- For the receiver, only the label's value is new.
pub told_also_is : (messages : List Message) (said : Message) → list_any (is_about said.label said.receiver) messages ≡ false → (w : List ℕ) → told_also (told messages) said.label (Some said.order) w said.receiver ≡ told (messages ++ said ∷ []) w said.receiver
unfolding told_also
told_also_is messages said fresh w = elim (cases_Bool (bytes_eq w said.label)) [
  | inl it ↦
      let same : w ≡ said.label = (bytes_eq-Decides w said.label).0 it in
      cond-true (bytes_eq w said.label) (Some said.order) (told messages w said.receiver) it ∙ rw same (sym (told_here messages said fresh))
  | inr ne ↦
      let apart : is_about w said.receiver said ≡ false = never (said.receiver == said.receiver) (bytes_eq said.label w) (bytes_sym said.label w ∙ ne) in
      cond-false (bytes_eq w said.label) (Some said.order) (told messages w said.receiver) ne ∙ sym (told_elsewhere messages said w said.receiver apart)
]
  where
    never : (a b : Bool) → b ≡ false → (a && b) ≡ false
    never true b e = e
    never false b e = refl

-- For another receiver, nothing is new.
pub told_others : (messages : List Message) (said : Message) (p : ℕ) → said.receiver ≢ p → (w : List ℕ) → told messages w p ≡ told (messages ++ said ∷ []) w p
told_others messages said p ne w = sym (told_elsewhere messages said w p (never (said.receiver == p) (bytes_eq said.label w) (ne_eqb said.receiver p ne)))
  where
    never : (a b : Bool) → a ≡ false → (a && b) ≡ false
    never true b e = absurd (true≢false e)
    never false b e = refl

-- A place has an order exactly if a message is about it.
pub told_any : (messages : List Message) (w : List ℕ) (p : ℕ) → is_some (told messages w p) ≡ list_any (is_about w p) messages
unfolding told
told_any [] w p = refl
told_any (x ∷ xs) w p = elim (cases_Bool (is_about w p x)) [
  | inl it ↦ rw it refl
  | inr fails ↦ rw fails (told_any xs w p)
]
