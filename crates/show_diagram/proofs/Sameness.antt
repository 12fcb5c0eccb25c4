-- Messages that are the same are equal.
use Rattle.std.proofs.Common.{ℕ, ◌≡◌, Bool, true, false, ◌&&◌, refl, sym, ap, ◌∙◌, inl, inr, Option, Some, None}
use Rattle.std.proofs.lemmas.Bool.{and_parts, cases_Bool, eq-eqb, eqb-true}
use Rattle.std.specs.Bool.{beq}
use Rattle.std.specs.Option.{option_eq}
use Rattle.std.specs.Prelude.{◌==◌, nat_eq}
use Rattle.show_diagram.specs.declared.told_order.Telling.{Telling}
use Rattle.show_diagram.specs.Lists.{is_same}

same_told : (o u : Option ℕ) → option_eq nat_eq o u ≡ true → o ≡ u
same_told (Some a) (Some b) e = ap Some (eqb-true a b e)
same_told (Some a) None e = cc
same_told None (Some b) e = cc
same_told None None e = refl

same_bool : (a b : Bool) → beq a b ≡ true → a ≡ b
same_bool true true e = refl
same_bool true false e = cc
same_bool false true e = cc
same_bool false false e = refl

pub same_is : (x y : Telling) → is_same x y ≡ true → x ≡ y
same_is x y e =
    let one = and_parts (x.round == y.round) (x.teller == y.teller && (option_eq nat_eq x.told y.told && beq x.differs y.differs)) e in
    let two = and_parts (x.teller == y.teller) (option_eq nat_eq x.told y.told && beq x.differs y.differs) one.1 in
    let three = and_parts (option_eq nat_eq x.told y.told) (beq x.differs y.differs) two.1 in
    let er : x.round ≡ y.round = eqb-true x.round y.round one.0 in
    let et : x.teller ≡ y.teller = eqb-true x.teller y.teller two.0 in
    let eo : x.told ≡ y.told = same_told x.told y.told three.0 in
    let ed : x.differs ≡ y.differs = same_bool x.differs y.differs three.1 in
    λ i. record { round = er i; teller = et i; told = eo i; differs = ed i }

told_same : (o : Option ℕ) → option_eq nat_eq o o ≡ true
told_same (Some a) = eq-eqb a a refl
told_same None = refl

bool_same : (b : Bool) → beq b b ≡ true
bool_same true = refl
bool_same false = refl

both : (a b : Bool) → a ≡ true → b ≡ true → (a && b) ≡ true
both a b e f = ap (λ x. x && b) e ∙ f

pub own_same : (x : Telling) → is_same x x ≡ true
own_same x =
    both (x.round == x.round) (x.teller == x.teller && (option_eq nat_eq x.told x.told && beq x.differs x.differs)) (eq-eqb x.round x.round refl)
    (both (x.teller == x.teller) (option_eq nat_eq x.told x.told && beq x.differs x.differs) (eq-eqb x.teller x.teller refl)
    (both (option_eq nat_eq x.told x.told) (beq x.differs x.differs) (told_same x.told) (bool_same x.differs)))

-- Proves that sameness is symmetric.
pub same_back : (x y : Telling) → is_same x y ≡ is_same y x
same_back x y =
    let back : (a b : Telling) → is_same a b ≡ true → is_same b a ≡ true = λ a b e. ap (λ z. is_same z a) (sym (same_is a b e)) ∙ own_same a in
    elim (cases_Bool (is_same x y)) [
      | inl is ↦ is ∙ sym (back x y is)
      | inr other ↦ elim (cases_Bool (is_same y x)) [
        | inl is ↦ back y x is ∙ sym is
        | inr others ↦ other ∙ sym others
      ]
    ]
