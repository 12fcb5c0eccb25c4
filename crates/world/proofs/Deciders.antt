-- The lieutenants' decisions are made from their trees, one by one.
use Rattle.std.proofs.Common.{◌≡◌, ◌≢◌, ℕ, zero, suc, ◌<◌, ◌≤◌, ◌+◌, List, [], ◌∷◌, ◌++◌, length, map, get_or, Bool, false, refl, sym, ap, subst, ◌∙◌, inl, inr, Some, arith, length-append}
use Rattle.std.specs.Prelude.{slice_get, ◌==◌}
use Rattle.std.proofs.lemmas.Bool.{or_from, or_left, ne_eqb, eq-eqb, lt-ltb, le-ltb, cases_lt}
use Rattle.std.proofs.lemmas.List.{map-append}
use Rattle.label.specs.Labels.{on, others}
use Rattle.label.proofs.Ranks.{others-more_no, others-more_yes}
use Rattle.label.specs.Oral.{om}
use Rattle.label.specs.Lieutenants.{lieutenants}
use Rattle.combine.specs.declared.campaign_rule.Rule.{Rule}
use Rattle.combine.specs.Rule.{combined_by}
use Rattle.board.specs.Ledger.{RecordedBoard as Board}
use Rattle.tree.specs.LieutenantTree.{LieutenantTree}
use Rattle.resolve.specs.Decided.{Decides}
use Rattle.round.specs.Scenario.{Scenario, IsScenario}
use Rattle.round.specs.Letters.{Letter, messages}
use Rattle.round.specs.Told.{ToldSeen, WasTold, lieutenant_at}
use Rattle.world.specs.Part.{Progress}
use Rattle.world.specs.World.{World, each}
use Rattle.world.specs.Reached.{world_of}
use Rattle.world.specs.Chronicle.{decision, decisions}
use Rattle.std.proofs.lemmas.Option.{slice_get-get_or}

at_below : (c i : ℕ) → i < c → lieutenant_at c i ≡ i
at_below c i lt = rw (lt-ltb i c lt) refl

at_above : (c i : ℕ) → c ≤ i → lieutenant_at c i ≡ suc i
at_above c i le = rw (le-ltb i c le) (omega arith)

off : (c j : ℕ) → c ≢ j → on (c ∷ []) j ≡ false
off c j ne = or_from (c == j) false (ne_eqb c j ne) refl

more_map : (f : ℕ → ℕ) (c j g : ℕ) (xs : List ℕ) → c ≢ j → g ≡ j → xs ≡ map f (others j (c ∷ [])) → xs ++ f g ∷ [] ≡ map f (others (suc j) (c ∷ []))
more_map f c j g xs ne same is =
    (λ i. is i ++ f (same i) ∷ []) ∙ (sym (map-append f (others j (c ∷ [])) (j ∷ [])) ∙ ap (map f) (sym (others-more_yes (c ∷ []) j (off c j ne))))

-- The lieutenants with numbers below the commander's.
below : (f : ℕ → ℕ) (c n : ℕ) → n ≤ c → each n (λ i. f (lieutenant_at c i) ∷ []) ≡ map f (others n (c ∷ []))
below f c zero le = refl
below f c (suc n) le = more_map f c n (lieutenant_at c n) (each n (λ i. f (lieutenant_at c i) ∷ [])) (λ e. let w = e in omega arith) (at_below c n (omega arith)) (below f c n (omega arith))

-- The commander is not a lieutenant.
past : (f : ℕ → ℕ) (c m : ℕ) → c ≡ m → each m (λ i. f (lieutenant_at c i) ∷ []) ≡ map f (others (suc m) (c ∷ []))
past f c m same = below f c m (omega arith) ∙ ap (map f) (sym (others-more_no (c ∷ []) m (or_left (c == m) false (eq-eqb c m same))))

-- The lieutenants above the commander have an index that is one less than their number.
above : (f : ℕ → ℕ) (c m : ℕ) → c ≤ m → each m (λ i. f (lieutenant_at c i) ∷ []) ≡ map f (others (suc m) (c ∷ []))
above f c zero le = past f c zero (omega arith)
above f c (suc m) le =
    elim (cases_lt c (suc m)) [
      | inl lt ↦ more_map f c (suc m) (lieutenant_at c m) (each m (λ i. f (lieutenant_at c i) ∷ [])) (λ e. let w = e in omega arith) (at_above c m (omega arith)) (above f c m (omega arith))
      | inr ge ↦ past f c (suc m) (omega arith)
    ]

-- All lieutenants.
pub at_places : (f : ℕ → ℕ) (c m n : ℕ) → c < n → m + 1 ≡ n → each m (λ i. f (lieutenant_at c i) ∷ []) ≡ map f (lieutenants n c)
at_places f c m n lt is =
    let j : suc m ≡ n = omega arith in
    above f c m (omega arith) ∙ ap (λ (x : ℕ). map f (lieutenants x c)) j

singles_long : (f : ℕ → ℕ) (n : ℕ) → length (each n (λ i. f i ∷ [])) ≡ n
singles_long f zero = refl
singles_long f (suc n) = (let e = singles_long f n in omega (arith, length-append (each n (λ i. f i ∷ [])) (f n ∷ [])))

-- There is room for one more decision.
pub few_decided : (s : Scenario) (before : List (List Letter)) (told : ToldSeen) (trees : List LieutenantTree) (f : ℕ → ℕ) (i : ℕ) (xs : List ℕ) → IsScenario s → WasTold s before told → trees ≡ told.trees → i < length trees →
    xs ≡ each i (λ j. f j ∷ []) → length xs < 12
few_decided s before told trees f i xs is was same lt long =
    let n : length xs ≡ i = ap length long ∙ singles_long f i in
    let m : length trees ≡ length told.trees = ap length same in
    let count = was.count in
    let few = is.few in
    omega arith

module _ (s : Scenario) (closed : List (List Letter)) (k : Board) (opened : ℕ) (ps : List Progress) (full : Bool) (w : World) (told : ToldSeen) (trees : List LieutenantTree) (is : world_of s closed k opened ps full ≡ w) (was : WasTold s closed told) (same : trees ≡ told.trees) where
  -- A tree is resolved to its lieutenant's decision.
  pub tree_decides : (rule : Rule) (i order : ℕ) (t : LieutenantTree) → rule ≡ s.rule → i < length trees → t ≡ get_or trees i t → Decides (combined_by rule) t order →
      order ≡ decision w.scenario (messages w.closed) (lieutenant_at w.scenario.commander i)
  tree_decides rule i order t ruled lt here decides =
      let at : slice_get told.trees i ≡ Some t = ap (λ (l : List LieutenantTree). slice_get l i) (sym same) ∙ (slice_get-get_or trees i t lt ∙ ap (λ (x : LieutenantTree). Some x) (sym here)) in
      let of = was.trees i t at in
      decides (messages closed) of.filled
      ∙ ((λ j. om (combined_by (ruled j)) (of.generals j) (messages closed) (of.bound j) (of.commander j ∷ []) (of.general j))
      ∙ ap (λ (v : World). decision v.scenario (messages v.closed) (lieutenant_at v.scenario.commander i)) is)

  -- The decisions from all trees are all lieutenants' decisions.
  pub all_decided : (i : ℕ) (xs : List ℕ) → IsScenario s → length trees ≤ i → i ≤ length trees →
      xs ≡ each i (λ j. decision w.scenario (messages w.closed) (lieutenant_at w.scenario.commander j) ∷ []) → xs ≡ decisions w.scenario (messages w.closed)
  unfolding decisions
  all_decided i xs whole ge le long =
      let inside : w.scenario.commander < w.scenario.generals = (let A : World → Type 0 = λ v. v.scenario.commander < v.scenario.generals in subst A is whole.commander) in
      let n : s.generals ≡ w.scenario.generals = ap (λ (v : World). v.scenario.generals) is in
      let m : length trees ≡ length told.trees = ap length same in
      let count = was.count in
      long ∙ at_places (decision w.scenario (messages w.closed)) w.scenario.commander i w.scenario.generals inside (omega arith)
