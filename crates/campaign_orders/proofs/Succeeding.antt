-- The list of orders after a given one begins with the order that comes next.
use Rattle.std.proofs.Common.{◌≡◌, ◌≢◌, ℕ, zero, suc, ◌<◌, ◌≤◌, List, [], ◌∷◌, ◌++◌, length, map, true, false, refl, sym, ap, subst, ◌∙◌, inl, inr, ⊎_elim, Option, Some, None, arith}
use Rattle.std.specs.Prelude.{slice_get, replicate, ◌==◌}
use Rattle.std.proofs.lemmas.Bool.Decides.{eqb_tells}
use Rattle.board.specs.Board.{reply}
use Rattle.round.specs.Activation.{Turn, Goes, Asks, Ended, turn}
use Rattle.world.specs.declared.event.Event.TheVariants.{Tick}
use Rattle.world.specs.declared.part.Progress.{Progress}
use Rattle.world.specs.declared.part.Progress.TheVariants.{Acting, Silent, Posted}
use Rattle.world.specs.Kind.{Kind, World, served, ticked, happen, run}
use Rattle.world.specs.KindLists.{ticks_named, until_access}
use Rattle.world.proofs.Listing.{set-other}
use Rattle.campaign_orders.specs.Orders.{will_ask, past, behind, IsRoundFrom, IsFrom}
use Rattle.campaign_orders.specs.Listing.{askers, branch, or_end, round_orders, orders_from, Has, AreShort}
use Rattle.campaign_orders.specs.Succession.{least_above, turned_at, next_names, turned_in, next_order}
use Rattle.campaign_orders.specs.Walks.{IsWalk, AreWalks, IsAscending, IsCompletion}
use Rattle.campaign_orders.proofs.Listed.{to_asker, of_asker}
use Rattle.campaign_orders.proofs.Rising.{least_none, least_some, beyond, none_over, first_over, next_over, askers_rising}
use Rattle.campaign_orders.proofs.Leading.{round_walks, same_round}

-- Another general's tick does not change a part.
served_stays : (w : World) (g h : ℕ) (o : Turn) → h ≢ g → slice_get (served w g o).parts h ≡ slice_get w.parts h
served_stays w g h (Goes a) ne = set-other w.parts g h (Acting a) ne
served_stays w g h (Asks q f) ne = set-other w.parts g h (Acting (f (reply w.words q))) ne
served_stays w g h Ended ne = refl

ticked_stays : (w : World) (g h : ℕ) (o : Option Progress) → h ≢ g → slice_get (ticked w g o).parts h ≡ slice_get w.parts h
ticked_stays w g h None ne = refl
ticked_stays w g h (Some (Acting a)) ne = served_stays w g h (turn a) ne
ticked_stays w g h (Some Silent) ne = refl
ticked_stays w g h (Some Posted) ne = refl

module _ (K : Kind) where
  ticks_stay : (n : ℕ) (w : World) (g h : ℕ) → h ≢ g → slice_get (run K w (replicate n (Tick g))).parts h ≡ slice_get w.parts h
  ticks_stay zero w g h ne = refl
  ticks_stay (suc n) w g h ne = ticks_stay n (happen K w (Tick g)) g h ne ∙ ticked_stays w g h (slice_get w.parts g) ne

  pub past_stays : (w : World) (g h : ℕ) (o : Option Progress) → h ≢ g → slice_get (run K w (ticks_named g o)).parts h ≡ slice_get w.parts h
  past_stays w g h None ne = refl
  past_stays w g h (Some (Acting a)) ne = ticks_stay (until_access (length a.program) a) w g h ne
  past_stays w g h (Some Silent) ne = refl
  past_stays w g h (Some Posted) ne = refl

  -- Exactly the generals who make further accesses are in the order of the round.
  pub asker_comes : (names : List ℕ) (w : World) → IsRoundFrom K w names → (h : ℕ) → will_ask (slice_get w.parts h) ≡ true → Has names h
  asker_comes [] w r h y = absurd (let f : false ≡ true = sym (r h) ∙ y in cc)
  asker_comes (g ∷ names) w r h y = ⊎_elim
      (λ (q : (h == g ≡ true) × (h ≡ g)). inl (sym q.1))
      (λ (q : (h == g ≡ false) × (h ≢ g)). inr (asker_comes names (past K w g) r.1 h (ap will_ask (past_stays w g h (slice_get w.parts g) q.1) ∙ y)))
      (eqb_tells h g)

  comer_asks : (names : List ℕ) (w : World) → IsRoundFrom K w names → (h : ℕ) → Has names h → will_ask (slice_get w.parts h) ≡ true
  comer_asks [] w r h k = absurd k
  comer_asks (g ∷ names) w r h k = ⊎_elim
      (λ (q : (h == g ≡ true) × (h ≡ g)). ap (λ (j : ℕ). will_ask (slice_get w.parts j)) q.1 ∙ r.0)
      (λ (q : (h == g ≡ false) × (h ≢ g)).
      let m : Has names h = ⊎_elim (λ (e : g ≡ h). absurd (q.1 (sym e))) (λ j. j) k in
      ap will_ask (sym (past_stays w g h (slice_get w.parts g) q.1)) ∙ comer_asks names (past K w g) r.1 h m)
      (eqb_tells h g)

  pub nobody_asks : (w : World) → IsRoundFrom K w [] → askers w ≡ []
  nobody_asks w r = by (askers w) refl
    where
      by : (gs : List ℕ) → askers w ≡ gs → gs ≡ []
      by [] e = refl
      by (g ∷ gs) e = absurd (let A : List ℕ → Type 0 = λ l. Has l g in let f : true ≡ false = sym (of_asker w g (subst A (sym e) (inl refl))) ∙ r g in cc)

  -- Returns the orders of the round that come after the given one.
  abbrev pub round_rest : ℕ → World → List ℕ → List (List ℕ)
  round_rest zero w names = []
  round_rest (suc k) w [] = []
  round_rest (suc k) w (g ∷ names) = map (λ r. g ∷ r) (round_rest k (past K w g) names) ++ branch (beyond g (askers w)) (λ h. round_orders K k (past K w h))

  -- The first order has the accesses by general, ascending.
  round_first : (k : ℕ) (w : World) (q : List ℕ) → IsRoundFrom K w q → IsAscending q → length q ≤ k → round_orders K k w ≡ q ∷ round_rest k w q
  round_first zero w [] r a le = ap (λ gs. or_end gs (λ g. [])) (nobody_asks w r)
  round_first zero w (g ∷ q) r a le = absurd (omega arith)
  round_first (suc k) w [] r a le = ap (λ gs. or_end gs (λ g. round_orders K k (past K w g))) (nobody_asks w r)
  round_first (suc k) w (g ∷ q) r a le =
      let later = λ (h : ℕ). round_orders K k (past K w h) in
      let low : (y : ℕ) → Has (askers w) y → g ≤ y = (λ y h. ⊎_elim (λ (e : g ≡ y). omega arith) (λ m. a.0 y m) (asker_comes (g ∷ q) w r y (of_asker w y h))) in
      let one : askers w ≡ g ∷ beyond g (askers w) = first_over g (askers w) (askers_rising w) (to_asker w g r.0) low in
      let more : later g ≡ q ∷ round_rest k (past K w g) q = round_first k (past K w g) q r.1 a.1 (omega arith) in
      ap (λ gs. or_end gs later) one ∙ (λ i. map (λ x. g ∷ x) (more i) ++ branch (beyond g (askers w)) later)

  -- After the last order there is none.
  round_last : (names : List ℕ) (k : ℕ) (w : World) → IsRoundFrom K w names → length names ≤ k → next_names names ≡ None → round_rest k w names ≡ []
  round_last [] zero w r le e = refl
  round_last [] (suc k) w r le e = refl
  round_last (g ∷ names) zero w r le e = absurd (omega arith)
  round_last (g ∷ names) (suc k) w r le e = by (λ n. round_last names k (past K w g) r.1 (omega arith) n) (next_names names) refl (least_above g names) refl e
    where
      by : (next_names names ≡ None → round_rest k (past K w g) names ≡ []) → (n : Option (List ℕ)) → next_names names ≡ n → (l : Option ℕ) → least_above g names ≡ l → turned_at g n l ≡ None → round_rest (suc k) w (g ∷ names) ≡ []
      by again (Some p) n l m f = absurd (let c : Some (g ∷ p) ≡ None = f in cc)
      by again None n (Some h) m f = absurd (let c : Some (h ∷ []) ≡ None = f in cc)
      by again None n None m f =
          let none : beyond g (askers w) ≡ [] = none_over g (askers w) (λ y h. ⊎_elim (λ (e : g ≡ y). omega arith) (λ j. least_none g names m y j) (asker_comes (g ∷ names) w r y (of_asker w y h))) in
          λ i. map (λ x. g ∷ x) (again n i) ++ branch (none i) (λ h. round_orders K k (past K w h))

  -- Otherwise the next order begins like this, and goes on by general, ascending.
  round_next : (names : List ℕ) (k : ℕ) (w : World) → IsRoundFrom K w names → length names ≤ k → (p : List ℕ) → next_names names ≡ Some p →
      (q : List ℕ) → IsRoundFrom K w (p ++ q) → IsAscending q → length (p ++ q) ≤ k → round_rest k w names ≡ (p ++ q) ∷ round_rest k w (p ++ q)
  round_next [] k w r le p e = absurd (let c : None ≡ Some p = e in cc)
  round_next (g ∷ names) zero w r le p e = absurd (omega arith)
  round_next (g ∷ names) (suc k) w r le p e = by (λ p n q r' a le'. round_next names k (past K w g) r.1 (omega arith) p n q r' a le') (next_names names) refl (least_above g names) refl e
    where
      by : ((p : List ℕ) → next_names names ≡ Some p → (q : List ℕ) → IsRoundFrom K (past K w g) (p ++ q) → IsAscending q → length (p ++ q) ≤ k →
          round_rest k (past K w g) names ≡ (p ++ q) ∷ round_rest k (past K w g) (p ++ q)) →
          (n : Option (List ℕ)) → next_names names ≡ n → (l : Option ℕ) → least_above g names ≡ l → turned_at g n l ≡ Some p →
          (q : List ℕ) → IsRoundFrom K w (p ++ q) → IsAscending q → length (p ++ q) ≤ suc k → round_rest (suc k) w (g ∷ names) ≡ (p ++ q) ∷ round_rest (suc k) w (p ++ q)
      by again (Some x) n l m f =
          let c : g ∷ x ≡ p = (let d : Some (g ∷ x) ≡ Some p = f in cc) in
          let A : List ℕ → Type 0 = λ p. (q : List ℕ) → IsRoundFrom K w (p ++ q) → IsAscending q → length (p ++ q) ≤ suc k → round_rest (suc k) w (g ∷ names) ≡ (p ++ q) ∷ round_rest (suc k) w (p ++ q) in
          subst A c (λ q r' a le'. (let more = again x n q r'.1 a (omega arith) in λ i. map (λ y. g ∷ y) (more i) ++ branch (beyond g (askers w)) (λ h. round_orders K k (past K w h))))
      by again None n (Some h) m f =
          let c : h ∷ [] ≡ p = (let d : Some (h ∷ []) ≡ Some p = f in cc) in
          let A : List ℕ → Type 0 = λ p. (q : List ℕ) → IsRoundFrom K w (p ++ q) → IsAscending q → length (p ++ q) ≤ suc k → round_rest (suc k) w (g ∷ names) ≡ (p ++ q) ∷ round_rest (suc k) w (p ++ q) in
          let l = least_some g names h m in
          let above : (y : ℕ) → Has (askers w) y → g < y → h ≤ y = (λ y j lt. ⊎_elim (λ (e : g ≡ y). absurd (omega arith)) (λ i. l.least y i lt) (asker_comes (g ∷ names) w r y (of_asker w y j))) in
          let over : beyond g (askers w) ≡ h ∷ beyond h (askers w) = next_over g h (askers w) (askers_rising w) (to_asker w h (comer_asks (g ∷ names) w r h (inr l.has))) l.above above in
          let none : round_rest k (past K w g) names ≡ [] = round_last names k (past K w g) r.1 (omega arith) n in
          subst A c (λ q r' a le'.
          let one : round_orders K k (past K w h) ≡ q ∷ round_rest k (past K w h) q = round_first k (past K w h) q r'.1 a (omega arith) in
          (λ i. map (λ y. g ∷ y) (none i) ++ branch (over i) (λ j. round_orders K k (past K w j))) ∙ (λ i. map (λ y. h ∷ y) (one i) ++ branch (beyond h (askers w)) (λ j. round_orders K k (past K w j))))
      by again None n None m f = absurd (let d : None ≡ Some p = f in cc)

  -- Each of its names makes an access.
  walk_next : (names : List ℕ) (w : World) → IsRoundFrom K w names → (p : List ℕ) → next_names names ≡ Some p → IsWalk K w p
  walk_next [] w r p e = absurd (let c : None ≡ Some p = e in cc)
  walk_next (g ∷ names) w r p e = by (λ p n. walk_next names (past K w g) r.1 p n) (next_names names) refl (least_above g names) refl e
    where
      by : ((p : List ℕ) → next_names names ≡ Some p → IsWalk K (past K w g) p) → (n : Option (List ℕ)) → next_names names ≡ n → (l : Option ℕ) → least_above g names ≡ l → turned_at g n l ≡ Some p → IsWalk K w p
      by again (Some x) n l m f = (let c : g ∷ x ≡ p = (let d : Some (g ∷ x) ≡ Some p = f in cc) in let A : List ℕ → Type 0 = λ p. IsWalk K w p in subst A c (r.0, again x n))
      by again None n (Some h) m f =
          let c : h ∷ [] ≡ p = (let d : Some (h ∷ []) ≡ Some p = f in cc) in
          let A : List ℕ → Type 0 = λ p. IsWalk K w p in
          subst A c (comer_asks (g ∷ names) w r h (inr (least_some g names h m).has), tt)
      by again None n None m f = absurd (let d : None ≡ Some p = f in cc)

  -- The same holds round by round.
  abbrev pub rest_from : ℕ → World → ℕ → List (List ℕ) → List (List (List ℕ))
  rest_from most w zero order = []
  rest_from most w (suc k) [] = []
  rest_from most w (suc k) (names ∷ order) =
      map (λ r. names ∷ r) (rest_from most (behind K w names) k order) ++ branch (round_rest most w names) (λ ns. orders_from K most (behind K w ns) k)

  pub from_first : (most k : ℕ) (w : World) (rows : List (List ℕ)) → IsFrom K w k rows → AreShort most rows → IsCompletion [] rows → orders_from K most w k ≡ rows ∷ rest_from most w k rows
  from_first most zero w rows f s c = λ i. sym f i ∷ []
  from_first most (suc k) w [] f s c = absurd f
  from_first most (suc k) w (row ∷ rows) f s c =
      let A : List ℕ → Type 0 = λ l. IsAscending l in
      let later = λ (ns : List ℕ). orders_from K most (behind K w ns) k in
      let one : round_orders K most w ≡ row ∷ round_rest most w row = round_first most w row f.0 (subst A (sym c.0.1) c.0.2) s.0 in
      let more : later row ≡ rows ∷ rest_from most (behind K w row) k rows = from_first most k (behind K w row) rows f.1 s.1 c.1 in
      ap (λ l. branch l later) one ∙ (λ i. map (λ x. row ∷ x) (more i) ++ branch (round_rest most w row) later)

  pub from_last : (most k : ℕ) (w : World) (order : List (List ℕ)) → IsFrom K w k order → AreShort most order → next_order order ≡ None → rest_from most w k order ≡ []
  from_last most zero w order f s e = refl
  from_last most (suc k) w [] f s e = refl
  from_last most (suc k) w (names ∷ order) f s e = by (λ n. from_last most k (behind K w names) order f.1 s.1 n) (next_order order) refl (next_names names) refl e
    where
      by : (next_order order ≡ None → rest_from most (behind K w names) k order ≡ []) → (n : Option (List (List ℕ))) → next_order order ≡ n → (m : Option (List ℕ)) → next_names names ≡ m → turned_in names n m ≡ None →
          rest_from most w (suc k) (names ∷ order) ≡ []
      by again (Some P) n m o g = absurd (let c : Some (names ∷ P) ≡ None = g in cc)
      by again None n (Some p) o g = absurd (let c : Some (p ∷ []) ≡ None = g in cc)
      by again None n None o g =
          let none : round_rest most w names ≡ [] = round_last names most w f.0 s.0 o in
          λ i. map (λ x. names ∷ x) (again n i) ++ branch (none i) (λ ns. orders_from K most (behind K w ns) k)

  pub from_next : (most k : ℕ) (w : World) (order : List (List ℕ)) → IsFrom K w k order → AreShort most order → (P : List (List ℕ)) → next_order order ≡ Some P →
      (rows : List (List ℕ)) → IsFrom K w k rows → AreShort most rows → IsCompletion P rows → rest_from most w k order ≡ rows ∷ rest_from most w k rows
  from_next most zero w order f s P e rows f' s' c =
      absurd (let n : next_order order ≡ None = ap next_order f in let d : None ≡ Some P = sym n ∙ e in cc)
  from_next most (suc k) w [] f s P e rows f' s' c = absurd f
  from_next most (suc k) w (names ∷ order) f s P e [] f' s' c = absurd f'
  from_next most (suc k) w (names ∷ order) f s P e (row ∷ rows) f' s' c =
      by (λ P n f1 c1. from_next most k (behind K w names) order f.1 s.1 P n rows f1 s'.1 c1) (next_order order) refl (next_names names) refl e c
    where
      by : ((P : List (List ℕ)) → next_order order ≡ Some P → IsFrom K (behind K w names) k rows → IsCompletion P rows → rest_from most (behind K w names) k order ≡ rows ∷ rest_from most (behind K w names) k rows) →
          (n : Option (List (List ℕ))) → next_order order ≡ n → (m : Option (List ℕ)) → next_names names ≡ m → turned_in names n m ≡ Some P → IsCompletion P (row ∷ rows) →
          rest_from most w (suc k) (names ∷ order) ≡ (row ∷ rows) ∷ rest_from most w (suc k) (row ∷ rows)
      by again (Some X) n m o g =
          let d : names ∷ X ≡ P = (let h : Some (names ∷ X) ≡ Some P = g in cc) in
          let A : List (List ℕ) → Type 0 = λ P. IsCompletion P (row ∷ rows) → rest_from most w (suc k) (names ∷ order) ≡ (row ∷ rows) ∷ rest_from most w (suc k) (row ∷ rows) in
          subst A d (λ c.
          let same : row ≡ names = same_round K names row w f.0 f'.0 c.0.0 c.0.1 in
          let B : List ℕ → Type 0 = λ l. IsFrom K (behind K w l) k rows in
          let more = again X n (subst B same f'.1) c.1 in
          (λ i. map (λ x. names ∷ x) (more i) ++ branch (round_rest most w names) (λ ns. orders_from K most (behind K w ns) k))
          ∙ (λ i. (sym same i ∷ rows) ∷ rest_from most w (suc k) (sym same i ∷ rows)))
      by again None n (Some p) o g =
          let d : p ∷ [] ≡ P = (let h : Some (p ∷ []) ≡ Some P = g in cc) in
          let A : List (List ℕ) → Type 0 = λ P. IsCompletion P (row ∷ rows) → rest_from most w (suc k) (names ∷ order) ≡ (row ∷ rows) ∷ rest_from most w (suc k) (row ∷ rows) in
          subst A d (λ c.
          let q = c.0.0 in
          let is : row ≡ p ++ q = c.0.1 in
          let B : List ℕ → Type 0 = λ l. IsRoundFrom K w l × (length l ≤ most) in
          let there = subst B is (f'.0, s'.0) in
          let two : round_rest most w names ≡ (p ++ q) ∷ round_rest most w (p ++ q) = round_next names most w f.0 s.0 p o q there.0 c.0.2 there.1 in
          let over : round_rest most w names ≡ row ∷ round_rest most w row = two ∙ (λ i. sym is i ∷ round_rest most w (sym is i)) in
          let none : rest_from most (behind K w names) k order ≡ [] = from_last most k (behind K w names) order f.1 s.1 n in
          let more : orders_from K most (behind K w row) k ≡ rows ∷ rest_from most (behind K w row) k rows = from_first most k (behind K w row) rows f'.1 s'.1 c.1 in
          (λ i. map (λ x. names ∷ x) (none i) ++ branch (over i) (λ ns. orders_from K most (behind K w ns) k))
          ∙ (λ i. map (λ x. row ∷ x) (more i) ++ branch (round_rest most w row) (λ ns. orders_from K most (behind K w ns) k)))
      by again None n None o g = absurd (let d : None ≡ Some P = g in cc)

  pub walks_next : (k : ℕ) (w : World) (order : List (List ℕ)) → IsFrom K w k order → (P : List (List ℕ)) → next_order order ≡ Some P → AreWalks K w P
  walks_next zero w order f P e = absurd (let n : next_order order ≡ None = ap next_order f in let d : None ≡ Some P = sym n ∙ e in cc)
  walks_next (suc k) w [] f P e = absurd f
  walks_next (suc k) w (names ∷ order) f P e = by (λ P n. walks_next k (behind K w names) order f.1 P n) (next_order order) refl (next_names names) refl e
    where
      by : ((P : List (List ℕ)) → next_order order ≡ Some P → AreWalks K (behind K w names) P) → (n : Option (List (List ℕ))) → next_order order ≡ n → (m : Option (List ℕ)) → next_names names ≡ m → turned_in names n m ≡ Some P →
          AreWalks K w P
      by again (Some X) n m o g =
          let d : names ∷ X ≡ P = (let h : Some (names ∷ X) ≡ Some P = g in cc) in
          let A : List (List ℕ) → Type 0 = λ P. AreWalks K w P in
          subst A d (round_walks K names w f.0, again X n)
      by again None n (Some p) o g =
          let d : p ∷ [] ≡ P = (let h : Some (p ∷ []) ≡ Some P = g in cc) in
          let A : List (List ℕ) → Type 0 = λ P. AreWalks K w P in
          subst A d (walk_next names w f.0 p o, tt)
      by again None n None o g = absurd (let d : None ≡ Some P = g in cc)
