-- The least of reduced campaigns.
use Rattle.std.proofs.Common.{ℕ, ◌≡◌, Bool, true, false, List, [], ◌∷◌, ◌++◌, length, refl, arith, Option, None, Some}
use Rattle.std.specs.Prelude.{cond, IfSome}
use Rattle.std.proofs.lemmas.Bool.Decides.{nat_tests}
use Rattle.std.proofs.lemmas.List.Elements.{All-append, All-cons, All-nil, All-weaker, Contains-append_left, Contains-append_right, Contains-push}
use Rattle.surveys.specs.declared.breach.Breach.{Breach}
use Rattle.surveys.specs.Breaches.{IsLeastOf, better, is_before, is_below, statements}

-- The order of triples: none is less than itself, and a triple that is not less than another is not less than a lesser
-- one.
never_itself : (a b c : ℕ) → is_below a b c a b c ≡ false
never_itself a b c = grind (arith, nat_tests)

below_less : (a b c d e f g h i : ℕ) → is_below a b c d e f ≡ false → is_below g h i d e f ≡ true → is_below a b c g h i ≡ false
below_less a b c d e f g h i o l = grind (arith, nat_tests)

not_before : (b : Breach) → is_before b b ≡ false
not_before b = never_itself (length b.plot.traitors) (statements b.plot) b.seed

still_not : (c a b : Breach) → is_before c a ≡ false → is_before b a ≡ true → is_before c b ≡ false
still_not c a b o l =
    below_less (length c.plot.traitors) (statements c.plot) c.seed (length a.plot.traitors) (statements a.plot) a.seed (length b.plot.traitors) (statements b.plot) b.seed o l

-- If a triple is less than another, it is less than each triple that is not less than that one.
below_both : (a b c d e f g h i : ℕ) → is_below a b c d e f ≡ true → is_below d e f g h i ≡ true → is_below a b c g h i ≡ true
below_both a b c d e f g h i o l = grind (arith, nat_tests)

below_not_less : (a b c d e f g h i : ℕ) → is_below a b c d e f ≡ true → is_below g h i d e f ≡ false → is_below a b c g h i ≡ true
below_not_less a b c d e f g h i o l = grind (arith, nat_tests)

pub before_both : (a b c : Breach) → is_before a b ≡ true → is_before b c ≡ true → is_before a c ≡ true
before_both a b c o l =
    below_both (length a.plot.traitors) (statements a.plot) a.seed (length b.plot.traitors) (statements b.plot) b.seed (length c.plot.traitors) (statements c.plot) c.seed o l

pub before_not_less : (a b c : Breach) → is_before a b ≡ true → is_before c b ≡ false → is_before a c ≡ true
before_not_less a b c o l =
    below_not_less (length a.plot.traitors) (statements a.plot) a.seed (length b.plot.traitors) (statements b.plot) b.seed (length c.plot.traitors) (statements c.plot) c.seed o l

-- The reduced campaign, if there is one, is not less than `b`.
abbrev Bounds : Breach → Option Breach → Type 0
Bounds b o = IfSome o (λ c. is_before c b ≡ false)

nothing_bounds : (b : Breach) (o : Option Breach) → o ≡ None → Bounds b o
nothing_bounds b None e = tt
nothing_bounds b (Some c) e = absurd (cc)

less_bounds : (a b : Breach) → is_before b a ≡ true → (o : Option Breach) → Bounds a o → Bounds b o
less_bounds a b l None h = tt
less_bounds a b l (Some c) h = still_not c a b h l

other_bounds : (a b : Breach) → is_before b a ≡ false → (o : Option Breach) → Bounds b o → Bounds a o
other_bounds a b l None h = tt
other_bounds a b l (Some c) h = not_between c a b h l
  where
    between : (t s e u v w x y z : ℕ) → is_below t s e x y z ≡ false → is_below x y z u v w ≡ false → is_below t s e u v w ≡ false
    between t s e u v w x y z p q = grind (arith, nat_tests)

    not_between : (c a b : Breach) → is_before c b ≡ false → is_before b a ≡ false → is_before c a ≡ false
    not_between c a b p q =
        between (length c.plot.traitors) (statements c.plot) c.seed (length a.plot.traitors) (statements a.plot) a.seed (length b.plot.traitors) (statements b.plot) b.seed p q

-- The least of two lists is the lesser of the two least ones.
pub least_of_both : (xs ys : List (Option Breach)) (a b : Option Breach) → IsLeastOf xs a → IsLeastOf ys b → IsLeastOf (xs ++ ys) (better a b)
least_of_both xs ys None None h k = All-append (λ o. o ≡ None) xs ys h k
least_of_both xs ys None (Some b) h k =
    (Contains-append_right xs ys (Some b) k.0, All-append (Bounds b) xs ys (All-weaker (λ o. o ≡ None) (Bounds b) (nothing_bounds b) xs h) k.1)
least_of_both xs ys (Some a) None h k =
    (Contains-append_left xs ys (Some a) h.0, All-append (Bounds a) xs ys h.1 (All-weaker (λ o. o ≡ None) (Bounds a) (nothing_bounds a) ys k))
least_of_both xs ys (Some a) (Some b) h k = go (is_before b a) refl
  where
    go : (t : Bool) → is_before b a ≡ t → IsLeastOf (xs ++ ys) (cond t (Some b) (Some a))
    go true e = (Contains-append_right xs ys (Some b) k.0, All-append (Bounds b) xs ys (All-weaker (Bounds a) (Bounds b) (less_bounds a b e) xs h.1) k.1)
    go false e = (Contains-append_left xs ys (Some a) h.0, All-append (Bounds a) xs ys h.1 (All-weaker (Bounds b) (Bounds a) (other_bounds a b e) ys k.1))

least_of_one : (o : Option Breach) → IsLeastOf (o ∷ []) o
least_of_one None = All-cons (λ o. o ≡ None) None [] refl (All-nil (λ o. o ≡ None))
least_of_one (Some b) = (Contains-push [] (Some b), All-cons (Bounds b) (Some b) [] (not_before b) (All-nil (Bounds b)))

-- The least of a list and one more result.
pub least_more : (xs : List (Option Breach)) (a o : Option Breach) → IsLeastOf xs a → IsLeastOf (xs ++ o ∷ []) (better a o)
least_more xs a o h = least_of_both xs (o ∷ []) a o h (least_of_one o)
