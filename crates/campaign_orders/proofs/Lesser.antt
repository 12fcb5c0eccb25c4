-- Orders are compared by the first access in which they differ.
use Rattle.std.proofs.Common.{Vec, Ordering, Less, Equal, Greater, ◌≡◌, ℕ, List, [], ◌∷◌, ◌++◌, length, true, false, Bool, cond, refl, ap, ◌∙◌, arith}
use Rattle.std.specs.Cmp.{IsTotalOrder}
use Rattle.std.specs.Cmp.Lexicographic.{slice_cmp}
use Rattle.std.specs.Ordering.{nat_cmp, ordering_then, ordering_reverse, is_lt, is_gt}
use Rattle.std.proofs.lemmas.Cmp.{upto, tied_itself, nat_cmp_total, nat_list_cmp_total, lists_total, on_total, then_total}
use Rattle.std.specs.Global.{Global}
use Rattle.world.specs.Playing.{lists_in}
use Rattle.campaign_orders.specs.Least.{names_cmp, order_cmp, lesser, Beginning, beginning_cmp}

pub order_total : IsTotalOrder order_cmp
order_total = lists_total nat_list_cmp_total

pub beginning_total : IsTotalOrder beginning_cmp
beginning_total = then_total (on_total (λ (b : Beginning). b.0) order_total) (on_total (λ (b : Beginning). b.1) nat_list_cmp_total)

-- The same, as the code compares them.
pub lists_cmp : (a b : List (Vec ℕ Global)) → slice_cmp (λ (v w : Vec ℕ Global). slice_cmp nat_cmp v.items w.items) a b ≡ order_cmp (lists_in a) (lists_in b)
lists_cmp [] [] = refl
lists_cmp [] (w ∷ b) = refl
lists_cmp (v ∷ a) [] = refl
lists_cmp (v ∷ a) (w ∷ b) = ap (ordering_then (names_cmp v.items w.items)) (lists_cmp a b)

-- What the result of a comparison says about the opposite one.
less_not_gt : (o : Ordering) → is_lt o ≡ true → is_gt o ≡ false
less_not_gt Less e = refl
less_not_gt Equal e = refl
less_not_gt Greater e = absurd (let f : false ≡ true = e in cc)

not_less : (o : Ordering) → is_lt o ≡ false → is_gt (ordering_reverse o) ≡ false
not_less Less e = absurd (let f : true ≡ false = e in cc)
not_less Equal e = refl
not_less Greater e = refl

module _ {K : Type 0} {R : K → K → Ordering} (o : IsTotalOrder R) where
  pub least_self : (x : K) → is_gt (R x x) ≡ false
  least_self x = ap is_gt (tied_itself o x)

  pub least_less : (x y : K) → is_lt (R x y) ≡ true → is_gt (R x y) ≡ false
  least_less x y e = less_not_gt (R x y) e

  pub least_other : (x y : K) → is_lt (R y x) ≡ false → is_gt (R x y) ≡ false
  least_other x y e = ap is_gt (o.antisymm x y) ∙ not_less (R y x) e

  pub least_then : (x y z : K) → is_gt (R x y) ≡ false → is_gt (R y z) ≡ false → is_gt (R x z) ≡ false
  least_then x y z a b = upto o x y z a b

-- One more round is compared.
then_equal : (o : Ordering) → ordering_then o Equal ≡ o
then_equal Less = refl
then_equal Equal = refl
then_equal Greater = refl

then_assoc : (a b c : Ordering) → ordering_then a (ordering_then b c) ≡ ordering_then (ordering_then a b) c
then_assoc Less b c = refl
then_assoc Equal b c = refl
then_assoc Greater b c = refl

pub then_first : (a b : Ordering) → is_gt (ordering_then a b) ≡ false → is_gt a ≡ false
then_first Less b e = refl
then_first Equal b e = refl
then_first Greater b e = e

cmp_more : {A : Type 0} (R : A → A → Ordering) (a b : List A) (x y : A) → length a ≡ length b → slice_cmp R (a ++ x ∷ []) (b ++ y ∷ []) ≡ ordering_then (slice_cmp R a b) (R x y)
cmp_more R [] [] x y e = then_equal (R x y)
cmp_more R [] (q ∷ b) x y e = absurd (omega arith)
cmp_more R (p ∷ a) [] x y e = absurd (omega arith)
cmp_more R (p ∷ a) (q ∷ b) x y e = ap (ordering_then (R p q)) (cmp_more R a b x y (omega arith)) ∙ then_assoc (R p q) (slice_cmp R a b) (R x y)

pub begins_more : (rows others : List (List ℕ)) (names those : List ℕ) (g : ℕ) → length names ≡ length those → is_gt (beginning_cmp (rows, names) (others, those)) ≡ false
    → is_gt (beginning_cmp (rows, names ++ g ∷ []) (others, those ++ g ∷ [])) ≡ false
begins_more rows others names those g e h =
    let same : names_cmp (names ++ g ∷ []) (those ++ g ∷ []) ≡ names_cmp names those =
    cmp_more nat_cmp names those g g e ∙ (ap (ordering_then (names_cmp names those)) (tied_itself nat_cmp_total g) ∙ then_equal (names_cmp names those)) in
    ap (λ (o : Ordering). is_gt (ordering_then (order_cmp rows others) o)) same ∙ h

pub begins_closed : (rows others : List (List ℕ)) (names those : List ℕ) → length rows ≡ length others → is_gt (beginning_cmp (rows, names) (others, those)) ≡ false
    → is_gt (beginning_cmp (rows ++ names ∷ [], []) (others ++ those ∷ [], [])) ≡ false
begins_closed rows others names those e h =
    ap is_gt (then_equal (order_cmp (rows ++ names ∷ []) (others ++ those ∷ [])) ∙ cmp_more names_cmp rows others names those e) ∙ h

-- The lesser of two orders.
pub lesser_first : (a b : List (List ℕ)) → is_gt (order_cmp (lesser a b) a) ≡ false
lesser_first a b = by (is_lt (order_cmp b a)) refl
  where
    by : (c : Bool) → is_lt (order_cmp b a) ≡ c → is_gt (order_cmp (cond c b a) a) ≡ false
    by true e = least_less order_total b a e
    by false e = least_self order_total a

pub lesser_second : (a b : List (List ℕ)) → is_gt (order_cmp (lesser a b) b) ≡ false
lesser_second a b = by (is_lt (order_cmp b a)) refl
  where
    by : (c : Bool) → is_lt (order_cmp b a) ≡ c → is_gt (order_cmp (cond c b a) b) ≡ false
    by true e = least_self order_total b
    by false e = least_other order_total a b e
