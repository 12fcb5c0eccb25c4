-- The list of orders has each order once.
use Rattle.std.proofs.Common.{◌≡◌, ℕ, zero, suc, ◌+◌, ◌<◌, ◌≤◌, List, [], ◌∷◌, length, map, Bool, true, false, cond, refl, sym, ap, subst, ◌∙◌, ◌⊎◌, inl, inr, ⊎_elim, Option, Some, None, arith}
use Rattle.std.specs.Prelude.{slice_get, filter}
use Rattle.std.specs.List.{range_with_len}
use Rattle.std.proofs.lemmas.Option.{slice_get_within}
use Rattle.world.specs.declared.part.Progress.{Progress}
use Rattle.world.specs.Kind.{Kind, World, opening}
use Rattle.world.specs.Campaigns.{AreCampaigns}
use Rattle.campaign_orders.specs.Orders.{IsFrom, IsRoundFrom, will_ask, past, behind}
use Rattle.campaign_orders.specs.Listing.{askers, branch, or_end, round_orders, orders_from, Has, AreDifferent, AreShort, OrdersAreListed}
use Rattle.campaign_orders.proofs.Having.{has-append_to, has-append_of, different-append}
use Rattle.campaign_orders.proofs.Deciding.{orders_decide}

-- Lists that begin with a choice.
has_begun : {A : Type 0} → (g : A) (rows : List (List A)) (rest : List A) → Has rows rest → Has (map (λ r. g ∷ r) rows) (g ∷ rest)
has_begun g [] rest h = absurd h
has_begun g (r ∷ rows) rest h = ⊎_elim (λ e. inl (ap (λ x. g ∷ x) e)) (λ k. inr (has_begun g rows rest k)) h

pub begun_empty : {A : Type 0} → (g : A) (rows : List (List A)) → Has (map (λ r. g ∷ r) rows) [] → ⊥
begun_empty g [] h = h
begun_empty g (r ∷ rows) h = ⊎_elim (λ e. cc) (λ k. begun_empty g rows k) h

pub begun_has : {A : Type 0} → (g x : A) (rows : List (List A)) (rest : List A) → Has (map (λ r. g ∷ r) rows) (x ∷ rest) → (g ≡ x) × Has rows rest
begun_has g x [] rest h = absurd h
begun_has g x (r ∷ rows) rest h =
    ⊎_elim (λ e. ((let f : g ≡ x = cc in f), inl (let f : r ≡ rest = cc in f))) (λ k. (let b = begun_has g x rows rest k in (b.0, inr b.1))) h

begun_different : {A : Type 0} → (g : A) (rows : List (List A)) → AreDifferent rows → AreDifferent (map (λ r. g ∷ r) rows)
begun_different g [] d = tt
begun_different g (r ∷ rows) d = ((λ h. d.0 (begun_has g g rows r h).1), begun_different g rows d.1)

pub branch_empty : {A : Type 0} → (gs : List A) (later : A → List (List A)) → Has (branch gs later) [] → ⊥
branch_empty [] later h = h
branch_empty (g ∷ gs) later h =
    ⊎_elim (λ k. begun_empty g (later g) k) (λ k. branch_empty gs later k) (has-append_of (map (λ r. g ∷ r) (later g)) (branch gs later) [] h)

pub branch_has : {A : Type 0} → (gs : List A) (later : A → List (List A)) (x : A) (rest : List A) → Has (branch gs later) (x ∷ rest) → Has gs x × Has (later x) rest
branch_has [] later x rest h = absurd h
branch_has {A} (g ∷ gs) later x rest h =
    ⊎_elim
    (λ k. (let b = begun_has g x (later g) rest k in (inl b.0, (let P : A → Type 0 = λ y. Has (later y) rest in subst P b.0 b.1))))
    (λ k. (let b = branch_has gs later x rest k in (inr b.0, b.1)))
    (has-append_of (map (λ r. g ∷ r) (later g)) (branch gs later) (x ∷ rest) h)

has_branch : {A : Type 0} → (gs : List A) (later : A → List (List A)) (x : A) (rest : List A) → Has gs x → Has (later x) rest → Has (branch gs later) (x ∷ rest)
has_branch [] later x rest h k = absurd h
has_branch {A} (g ∷ gs) later x rest h k =
    has-append_to (map (λ r. g ∷ r) (later g)) (branch gs later) (x ∷ rest)
    (⊎_elim
    (λ e. inl (let P : A → Type 0 = λ y. Has (map (λ r. y ∷ r) (later y)) (x ∷ rest) in subst P (sym e) (has_begun x (later x) rest k)))
    (λ m. inr (has_branch gs later x rest m k)) h)

branch_different : {A : Type 0} → (gs : List A) (later : A → List (List A)) → AreDifferent gs → ((x : A) → AreDifferent (later x)) → AreDifferent (branch gs later)
branch_different [] later d e = tt
branch_different {A} (g ∷ gs) later d e =
    different-append (map (λ r. g ∷ r) (later g)) (branch gs later) (begun_different g (later g) (e g)) (branch_different gs later d.1 e)
    (λ row h k. apart row h k)
  where
    apart : (row : List A) → Has (map (λ r. g ∷ r) (later g)) row → Has (branch gs later) row → ⊥
    apart [] h k = begun_empty g (later g) h
    apart (x ∷ rest) h k =
        let P : A → Type 0 = λ y. Has gs y in
        d.0 (subst P (sym (begun_has g x (later g) rest h).0) (branch_has gs later x rest k).0)

-- Numbers that pass a test.
pub record Passes (p : ℕ → Bool) (a n g : ℕ) : Type 0 where
  pub passes : p g ≡ true
  pub from : a ≤ g
  pub below : g < a + n

pub passes_of : (p : ℕ → Bool) (a n g : ℕ) → Has (filter p (range_with_len a n)) g → Passes p a n g
passes_of p a zero g h = absurd h
passes_of p a (suc n) g h = by (λ k. passes_of p (a + 1) n g k) (p a) refl h
  where
    later : Passes p (a + 1) n g → Passes p a (suc n) g
    later k = record { passes = k.passes; from = (let f = k.from in omega arith); below = (let f = k.below in omega arith) }

    by : (Has (filter p (range_with_len (a + 1) n)) g → Passes p (a + 1) n g) → (b : Bool) → p a ≡ b → Has (cond b (a ∷ filter p (range_with_len (a + 1) n)) (filter p (range_with_len (a + 1) n))) g → Passes p a (suc n) g
    by again true e m = ⊎_elim (λ (q : a ≡ g). record { passes = ap p (sym q) ∙ e; from = omega arith; below = omega arith }) (λ k. later (again k)) m
    by again false e m = later (again m)

of_passes : (p : ℕ → Bool) (a n g : ℕ) → p g ≡ true → a ≤ g → g < a + n → Has (filter p (range_with_len a n)) g
of_passes p a zero g y le lt = absurd (omega arith)
of_passes p a (suc n) g y le lt = ⊎_elim (λ e. here e) (λ l. there (p a) (of_passes p (a + 1) n g y (let m = l in omega arith) (omega arith))) (first a g le)
  where
    first : (a g : ℕ) → a ≤ g → (a ≡ g) ⊎ (suc a ≤ g)
    first zero zero le = inl refl
    first zero (suc g) le = inr (omega arith)
    first (suc a) zero le = absurd (omega arith)
    first (suc a) (suc g) le = ⊎_elim (λ e. inl (ap suc e)) (λ l. inr (let m = l in omega arith)) (first a g (omega arith))

    here : a ≡ g → Has (filter p (range_with_len a (suc n))) g
    here e = (let y' : p a ≡ true = ap p e ∙ y in rw y' (inl e))

    there : (b : Bool) → Has (filter p (range_with_len (a + 1) n)) g → Has (cond b (a ∷ filter p (range_with_len (a + 1) n)) (filter p (range_with_len (a + 1) n))) g
    there true k = inr k
    there false k = k

numbers_different : (p : ℕ → Bool) (a n : ℕ) → AreDifferent (filter p (range_with_len a n))
numbers_different p a zero = tt
numbers_different p a (suc n) = by (p a) (numbers_different p (a + 1) n) (λ h. (let k = (passes_of p (a + 1) n a h).from in omega arith))
  where
    by : (b : Bool) → AreDifferent (filter p (range_with_len (a + 1) n)) → (Has (filter p (range_with_len (a + 1) n)) a → ⊥) → AreDifferent (cond b (a ∷ filter p (range_with_len (a + 1) n)) (filter p (range_with_len (a + 1) n)))
    by true d none = (none, d)
    by false d none = d

-- A general who will make a further access is among those listed.
asker_is : (w : World) (g : ℕ) (o : Option Progress) → slice_get w.parts g ≡ o → will_ask o ≡ true → g < length w.parts
asker_is w g None e y = absurd (let f : false ≡ true = y in cc)
asker_is w g (Some part) e y = slice_get_within w.parts g part e

pub to_asker : (w : World) (g : ℕ) → will_ask (slice_get w.parts g) ≡ true → Has (askers w) g
to_asker w g y = of_passes (λ h. will_ask (slice_get w.parts h)) 0 (length w.parts) g y (omega arith) (let l = asker_is w g (slice_get w.parts g) refl y in omega arith)

pub of_asker : (w : World) (g : ℕ) → Has (askers w) g → will_ask (slice_get w.parts g) ≡ true
of_asker w g h = (passes_of (λ h. will_ask (slice_get w.parts h)) 0 (length w.parts) g h).passes

pub nobody : (w : World) → askers w ≡ [] → (g : ℕ) → will_ask (slice_get w.parts g) ≡ false
nobody w e g = by (will_ask (slice_get w.parts g)) refl
  where
    by : (b : Bool) → will_ask (slice_get w.parts g) ≡ b → will_ask (slice_get w.parts g) ≡ false
    by true y = absurd (let P : List ℕ → Type 0 = λ l. Has l g in subst P e (to_asker w g y))
    by false y = y

-- There are choices, or there is none.
end_to : (w : World) (later : ℕ → List (List ℕ)) (gs : List ℕ) → askers w ≡ gs → ((g : ℕ) → will_ask (slice_get w.parts g) ≡ false) → Has (or_end gs later) []
end_to w later [] e none = inl refl
end_to w later (g ∷ gs) e none =
    absurd (let P : List ℕ → Type 0 = λ l. Has l g in let y = of_asker w g (subst P (sym e) (inl refl)) in let f : true ≡ false = sym y ∙ none g in cc)

end_of : (w : World) (later : ℕ → List (List ℕ)) (gs : List ℕ) → askers w ≡ gs → Has (or_end gs later) [] → (g : ℕ) → will_ask (slice_get w.parts g) ≡ false
end_of w later [] e h = nobody w e
end_of w later (g ∷ gs) e h = absurd (branch_empty (g ∷ gs) later h)

more_to : (later : ℕ → List (List ℕ)) (gs : List ℕ) (g : ℕ) (names : List ℕ) → Has gs g → Has (later g) names → Has (or_end gs later) (g ∷ names)
more_to later [] g names h k = absurd h
more_to later (x ∷ gs) g names h k = has_branch (x ∷ gs) later g names h k

more_of : (later : ℕ → List (List ℕ)) (gs : List ℕ) (g : ℕ) (names : List ℕ) → Has (or_end gs later) (g ∷ names) → Has gs g × Has (later g) names
more_of later [] g names h = absurd (⊎_elim (λ (e : [] ≡ g ∷ names). cc) (λ f. f) h)
more_of later (x ∷ gs) g names h = branch_has (x ∷ gs) later g names h

or_different : (later : ℕ → List (List ℕ)) (gs : List ℕ) → AreDifferent gs → ((g : ℕ) → AreDifferent (later g)) → AreDifferent (or_end gs later)
or_different later [] d e = ((λ f. f), tt)
or_different later (g ∷ gs) d e = branch_different (g ∷ gs) later d e

module _ (K : Kind) where
  round_to : (k : ℕ) (w : World) (names : List ℕ) → IsRoundFrom K w names → length names ≤ k → Has (round_orders K k w) names
  round_to zero w [] r le = end_to w (λ g. []) (askers w) refl r
  round_to zero w (g ∷ names) r le = absurd (omega arith)
  round_to (suc k) w [] r le = end_to w (λ g. round_orders K k (past K w g)) (askers w) refl r
  round_to (suc k) w (g ∷ names) r le =
      more_to (λ g. round_orders K k (past K w g)) (askers w) g names (to_asker w g r.0) (round_to k (past K w g) names r.1 (omega arith))

  round_of : (k : ℕ) (w : World) (names : List ℕ) → Has (round_orders K k w) names → IsRoundFrom K w names × (length names ≤ k)
  round_of zero w [] h = (end_of w (λ g. []) (askers w) refl h, omega arith)
  round_of zero w (g ∷ names) h = absurd (more_of (λ g. []) (askers w) g names h).1
  round_of (suc k) w [] h = (end_of w (λ g. round_orders K k (past K w g)) (askers w) refl h, omega arith)
  round_of (suc k) w (g ∷ names) h =
      let m = more_of (λ g. round_orders K k (past K w g)) (askers w) g names h in
      let r = round_of k (past K w g) names m.1 in
      ((of_asker w g m.0, r.0), (let l = r.1 in omega arith))

  round_once : (k : ℕ) (w : World) → AreDifferent (round_orders K k w)
  round_once zero w = or_different (λ g. []) (askers w) (numbers_different (λ h. will_ask (slice_get w.parts h)) 0 (length w.parts)) (λ g. tt)
  round_once (suc k) w = or_different (λ g. round_orders K k (past K w g)) (askers w) (numbers_different (λ h. will_ask (slice_get w.parts h)) 0 (length w.parts)) (λ g. round_once k (past K w g))

  from_to : (most k : ℕ) (w : World) (order : List (List ℕ)) → IsFrom K w k order → AreShort most order → Has (orders_from K most w k) order
  from_to most zero w order f s = inl (sym f)
  from_to most (suc k) w [] f s = absurd f
  from_to most (suc k) w (names ∷ order) f s =
      has_branch (round_orders K most w) (λ names. orders_from K most (behind K w names) k) names order (round_to most w names f.0 s.0) (from_to most k (behind K w names) order f.1 s.1)

  from_of : (most k : ℕ) (w : World) (order : List (List ℕ)) → Has (orders_from K most w k) order → IsFrom K w k order × AreShort most order
  from_of most zero w order h = ⊎_elim (λ (e : [] ≡ order). (sym e, (let P : List (List ℕ) → Type 0 = λ o. AreShort most o in subst P e tt))) (λ f. absurd f) h
  from_of most (suc k) w [] h = absurd (branch_empty (round_orders K most w) (λ names. orders_from K most (behind K w names) k) h)
  from_of most (suc k) w (names ∷ order) h =
      let b = branch_has (round_orders K most w) (λ names. orders_from K most (behind K w names) k) names order h in
      let r = round_of most w names b.0 in
      let m = from_of most k (behind K w names) order b.1 in
      ((r.0, m.0), (r.1, m.1))

  from_once : (most k : ℕ) (w : World) → AreDifferent (orders_from K most w k)
  from_once most zero w = ((λ f. f), tt)
  from_once most (suc k) w = branch_different (round_orders K most w) (λ names. orders_from K most (behind K w names) k) (round_once most w) (λ names. from_once most k (behind K w names))

  pub orders_are_listed : AreCampaigns K → OrdersAreListed K
  orders_are_listed good = record {
    round = λ most w names. (round_of most w names, λ r. round_to most w names r.0 r.1);
    once_in_round = round_once;
    all = λ s most order is. (
      (λ h. (let f = from_of most (suc s.bound) (opening K s) order h in (((orders_decide K good).steps s order is).1 f.0, f.1))),
      (λ h. from_to most (suc s.bound) (opening K s) order (((orders_decide K good).steps s order is).0 h.0) h.1),
    );
    once = λ s most. from_once most (suc s.bound) (opening K s);
  }
