-- The list of orders is ascending, so the first order with an outcome is the least.
use Rattle.std.proofs.Common.{Ordering, Less, Equal, Greater, ◌≡◌, ℕ, zero, suc, List, [], ◌∷◌, ◌++◌, map, true, false, Bool, cond, refl, sym, ap, subst, ◌∙◌, inl, inr, ⊎_elim, Some, ◌⊎◌}
use Rattle.std.specs.Prelude.{find, ◌==◌}
use Rattle.std.specs.Cmp.Lexicographic.{slice_cmp}
use Rattle.std.specs.Ordering.{nat_cmp, ordering_then, ordering_reverse, is_gt}
use Rattle.std.proofs.lemmas.Bool.{lt-ltb}
use Rattle.std.proofs.lemmas.Cmp.{tied_itself, nat_cmp_total, nat_list_cmp_total}
use Rattle.world.specs.Kind.{Kind, World}
use Rattle.campaign_orders.specs.Orders.{past, behind}
use Rattle.campaign_orders.specs.Least.{names_cmp, order_cmp}
use Rattle.campaign_orders.specs.Listing.{Has, askers, branch, or_end, round_orders, orders_from}
use Rattle.campaign_orders.proofs.Having.{has-append_of}
use Rattle.campaign_orders.proofs.Listed.{begun_empty, begun_has, branch_empty, branch_has}
use Rattle.campaign_orders.proofs.Rising.{IsRising, askers_rising}
use Rattle.campaign_orders.proofs.Lesser.{order_total}

abbrev pub AreAscending : {A : Type 0} → (A → A → Ordering) → List A → Type 0
AreAscending R [] = Unit {0}
AreAscending {A} R (x ∷ xs) = ((y : A) → Has xs y → R x y ≡ Less) × AreAscending R xs

ascending-append : {A : Type 0} (R : A → A → Ordering) (xs ys : List A) → AreAscending R xs → AreAscending R ys → ((x y : A) → Has xs x → Has ys y → R x y ≡ Less) → AreAscending R (xs ++ ys)
ascending-append R [] ys a b c = b
ascending-append R (x ∷ xs) ys a b c =
    ((λ y h. ⊎_elim (λ k. a.0 y k) (λ k. c x y (inl refl) k) (has-append_of xs ys y h)), ascending-append R xs ys a.1 b (λ u v h k. c u v (inr h) k))

-- Lists that begin with one choice come after those that begin with a lesser one.
module _ {A : Type 0} (R : A → A → Ordering) (self : (x : A) → R x x ≡ Equal) where
  begun_less : (g : A) (a : List A) (rows : List (List A)) → ((y : List A) → Has rows y → slice_cmp R a y ≡ Less) → (y : List A) → Has (map (λ r. g ∷ r) rows) y → slice_cmp R (g ∷ a) y ≡ Less
  begun_less g a [] h y k = absurd k
  begun_less g a (r ∷ rows) h y k =
      ⊎_elim
      (λ (e : g ∷ r ≡ y). (let P : List A → Type 0 = λ z. slice_cmp R (g ∷ a) z ≡ Less in subst P e (ap (λ (o : Ordering). ordering_then o (slice_cmp R a r)) (self g) ∙ h r (inl refl))))
      (λ m. begun_less g a rows (λ z n. h z (inr n)) y m) k

  begun_ascending : (g : A) (rows : List (List A)) → AreAscending (slice_cmp R) rows → AreAscending (slice_cmp R) (map (λ r. g ∷ r) rows)
  begun_ascending g [] a = tt
  begun_ascending g (r ∷ rows) a = (begun_less g r rows a.0, begun_ascending g rows a.1)

  pub branch_ascending : (gs : List A) (later : A → List (List A)) → AreAscending R gs → ((x : A) → AreAscending (slice_cmp R) (later x)) → AreAscending (slice_cmp R) (branch gs later)
  branch_ascending [] later a l = tt
  branch_ascending (g ∷ gs) later a l =
      ascending-append (slice_cmp R) (map (λ r. g ∷ r) (later g)) (branch gs later) (begun_ascending g (later g) (l g)) (branch_ascending gs later a.1 l) apart
    where
      apart : (x y : List A) → Has (map (λ r. g ∷ r) (later g)) x → Has (branch gs later) y → slice_cmp R x y ≡ Less
      apart [] y h k = absurd (begun_empty g (later g) h)
      apart (p ∷ x) [] h k = absurd (branch_empty gs later k)
      apart (p ∷ x) (q ∷ y) h k =
          let first : g ≡ p = (begun_has g p (later g) x h).0 in
          let less : R g q ≡ Less = a.0 q (branch_has gs later q y k).0 in
          (λ i. ordering_then (R (sym first i) q) (slice_cmp R x y)) ∙ ap (λ (o : Ordering). ordering_then o (slice_cmp R x y)) less

rising_ascending : (xs : List ℕ) → IsRising xs → AreAscending nat_cmp xs
rising_ascending [] r = tt
rising_ascending (x ∷ xs) r =
    ((λ y h. ap (λ (b : Bool). cond b Less (cond (x == y) Equal Greater)) (lt-ltb x y (r.0 y h))), rising_ascending xs r.1)

or_ascending : (gs : List ℕ) (later : ℕ → List (List ℕ)) → AreAscending nat_cmp gs → ((g : ℕ) → AreAscending names_cmp (later g)) → AreAscending names_cmp (or_end gs later)
or_ascending [] later a l = ((λ y h. absurd h), tt)
or_ascending (g ∷ gs) later a l = branch_ascending nat_cmp (tied_itself nat_cmp_total) (g ∷ gs) later a l

module _ (K : Kind) where
  round_ascending : (k : ℕ) (w : World) → AreAscending names_cmp (round_orders K k w)
  round_ascending zero w = or_ascending (askers w) (λ g. []) (rising_ascending (askers w) (askers_rising w)) (λ g. tt)
  round_ascending (suc k) w = or_ascending (askers w) (λ g. round_orders K k (past K w g)) (rising_ascending (askers w) (askers_rising w)) (λ g. round_ascending k (past K w g))

  pub orders_ascending : (most k : ℕ) (w : World) → AreAscending order_cmp (orders_from K most w k)
  orders_ascending most zero w = ((λ y h. absurd h), tt)
  orders_ascending most (suc k) w =
      branch_ascending names_cmp (tied_itself nat_list_cmp_total) (round_orders K most w) (λ names. orders_from K most (behind K w names) k) (round_ascending most w) (λ names. orders_ascending most k (behind K w names))

-- So the least element that passes a test is the first that does.
pub find_least : (p : List (List ℕ) → Bool) (all : List (List (List ℕ))) (x : List (List ℕ)) → AreAscending order_cmp all → Has all x → p x ≡ true
    → ((o : List (List ℕ)) → Has all o → p o ≡ true → is_gt (order_cmp x o) ≡ false) → find p all ≡ Some x
find_least p [] x a h e least = absurd h
find_least p (o ∷ all) x a h e least = by (λ k. find_least p all x a.1 k e (λ y m f. least y (inr m) f)) (p o) refl
  where
    first : p o ≡ true → (o ≡ x) ⊎ Has all x → o ≡ x
    first t (inl q) = q
    first t (inr k) =
        let back : order_cmp x o ≡ Greater = order_total.antisymm x o ∙ ap ordering_reverse (a.0 x k) in
        absurd (let f : true ≡ false = sym (ap is_gt back) ∙ least o (inl refl) t in cc)

    later : p o ≡ false → (o ≡ x) ⊎ Has all x → Has all x
    later t (inl q) = absurd (let f : false ≡ true = sym t ∙ (ap p q ∙ e) in cc)
    later t (inr k) = k

    by : (Has all x → find p all ≡ Some x) → (b : Bool) → p o ≡ b → cond b (Some o) (find p all) ≡ Some x
    by again true t = ap Some (first t h)
    by again false t = again (later t h)
