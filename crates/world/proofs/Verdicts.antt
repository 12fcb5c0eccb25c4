-- Lists of decisions, and what the verdict says of them.
use Rattle.std.proofs.Common.{◌≡◌, ◌≢◌, ℕ, zero, suc, ◌*◌, ◌<◌, ◌≤◌, List, [], ◌∷◌, map, length, Bool, true, false, refl, sym, ap, subst, ◌∙◌, ⊎_elim, inr, Some, None, arith}
use Rattle.std.specs.Prelude.{◌↔◌, ◌==◌, nat_lt, nat_le, count_by, slice_index}
use Rattle.std.specs.List.{list_all}
use Rattle.std.proofs.lemmas.Bool.{and_parts, and_from, eq-eqb, eqb-true, lt-ltb, ltb-true, le-leb, leb-true, cases_Bool}
use Rattle.std.proofs.lemmas.List.{length-map}
use Rattle.label.specs.Labels.{generals}
use Rattle.label.specs.Oral.{Agree, IsBound}
use Rattle.label.specs.Lieutenants.{lieutenants, AgreeInList}
use Rattle.book.specs.Conditions.{are_alike}
use Rattle.book.proofs.Listed.{loyal_at, read_map}
use Rattle.round.specs.Scenario.{Scenario, is_traitor}
use Rattle.round.specs.Letters.{messages}
use Rattle.world.specs.World.{oral_kind, opening, run}
use Rattle.world.specs.Chronicle.{decision, decisions, of_loyal, verdict_of}
use Rattle.world.specs.Agreement.{AreTolerable, BoundSuffices, DecisionsAgree, AreAlike, AreObedient, VerdictsMean}
use Rattle.world.proofs.Punctual.{run_scenario}
use Rattle.world.proofs.Agreeing.{proved_worlds_agree}

pub proved_bound_suffices : BoundSuffices
proved_bound_suffices s bound =
    let few : count_by (is_traitor s) (generals s.generals) ≤ s.bound = bound.few in
    let enough : 3 * s.bound < s.generals = bound.enough in
    inr (few, omega arith)

-- If the loyal lieutenants agree, so do their decisions in the list of lieutenants.
in_list : (n c order : ℕ) (traitor : ℕ → Bool) (d : ℕ → ℕ) → Agree n c order traitor d → AgreeInList n c order traitor (map d (lieutenants n c))
in_list n c order traitor d all = record {
  alike = λ i j a b. read_map d (lieutenants n c) i a.within ∙ (all.alike _ _ (loyal_at n c traitor i a) (loyal_at n c traitor j b) ∙ sym (read_map d (lieutenants n c) j b.within));
  obeyed = λ good i a. read_map d (lieutenants n c) i a.within ∙ all.obeyed good _ (loyal_at n c traitor i a);
}

pub proved_decisions_agree : DecisionsAgree
unfolding decisions
proved_decisions_agree s events is done few =
    in_list s.generals s.commander s.order (is_traitor s) (decision s (messages (run (opening s) events).closed)) (proved_worlds_agree.agree s events is done few)

module _ (s : Scenario) where
  -- A test that holds for all decisions of loyal generals holds for each of them.
  loyal_one : (t : ℕ → Bool) (gs ds : List ℕ) → length ds ≡ length gs → list_all t (of_loyal s gs ds) ≡ true → (i : ℕ) → i < length gs → is_traitor s (slice_index gs i) ≡ false → t (slice_index ds i) ≡ true
  loyal_one t [] ds e h i lt loyal = absurd (omega arith)
  loyal_one t (g ∷ gs) [] e h i lt loyal = absurd (omega arith)
  loyal_one t (g ∷ gs) (d ∷ ds) e h zero lt loyal = (and_parts (t d) (list_all t (of_loyal s gs ds)) (rw loyal at h)).0
  loyal_one t (g ∷ gs) (d ∷ ds) e h (suc i) lt loyal =
      ⊎_elim
      (λ (x : is_traitor s g ≡ true). loyal_one t gs ds (omega arith) (rw x at h) i (omega arith) loyal)
      (λ (x : is_traitor s g ≡ false). loyal_one t gs ds (omega arith) (and_parts (t d) (list_all t (of_loyal s gs ds)) (rw x at h)).1 i (omega arith) loyal)
      (cases_Bool (is_traitor s g))

  -- The converse also holds.
  loyal_all : (t : ℕ → Bool) (gs ds : List ℕ) → length ds ≡ length gs → ((i : ℕ) → i < length gs → is_traitor s (slice_index gs i) ≡ false → t (slice_index ds i) ≡ true) → list_all t (of_loyal s gs ds) ≡ true
  loyal_all t [] ds e h = refl
  loyal_all t (g ∷ gs) [] e h = refl
  loyal_all t (g ∷ gs) (d ∷ ds) e h =
      let rest : list_all t (of_loyal s gs ds) ≡ true = loyal_all t gs ds (omega arith) (λ i lt loyal. h (suc i) (omega arith) loyal) in
      ⊎_elim
      (λ (x : is_traitor s g ≡ true). rw x rest)
      (λ (x : is_traitor s g ≡ false). rw x (and_from (t d) (list_all t (of_loyal s gs ds)) (h 0 (omega arith) x) rest))
      (cases_Bool (is_traitor s g))

  same_one : (xs : List ℕ) → are_alike xs ≡ true → (d : ℕ) × (list_all (λ e. e == d) xs ≡ true)
  same_one [] h = (0, refl)
  same_one (d ∷ ds) h = (d, and_from (d == d) (list_all (λ e. e == d) ds) (eq-eqb d d refl) h)

  loyal_same : (gs ds : List ℕ) → length ds ≡ length gs
      → ((i j : ℕ) → i < length gs → is_traitor s (slice_index gs i) ≡ false → j < length gs → is_traitor s (slice_index gs j) ≡ false → slice_index ds i ≡ slice_index ds j)
      → are_alike (of_loyal s gs ds) ≡ true
  loyal_same [] ds e h = refl
  loyal_same (g ∷ gs) [] e h = refl
  loyal_same (g ∷ gs) (d ∷ ds) e h =
      ⊎_elim
      (λ (x : is_traitor s g ≡ true). rw x (loyal_same gs ds (omega arith) (λ i j a b c f. h (suc i) (suc j) (omega arith) b (omega arith) f)))
      (λ (x : is_traitor s g ≡ false). rw x (loyal_all (λ e. e == d) gs ds (omega arith) (λ i a b. eq-eqb (slice_index ds i) d (h (suc i) zero (omega arith) b (omega arith) x))))
      (cases_Bool (is_traitor s g))

  abbrev L : List ℕ
  L = lieutenants s.generals s.commander

  alike_is : (ds : List ℕ) → length ds ≡ length L → ((verdict_of s ds).alike ≡ true) ↔ AreAlike s ds
  alike_is ds long = (
    (λ h i j a b.
        let d = same_one (of_loyal s L ds) h in
        let here = eqb-true (slice_index ds i) d.0 (loyal_one (λ e. e == d.0) L ds long d.1 i a.within a.loyal) in
        here ∙ sym (eqb-true (slice_index ds j) d.0 (loyal_one (λ e. e == d.0) L ds long d.1 j b.within b.loyal))),
    (λ h. loyal_same L ds long (λ i j a b c d. h i j (record { within = a; loyal = b }) (record { within = c; loyal = d }))),
  )

  obeyed_is : (ds : List ℕ) → length ds ≡ length L → is_traitor s s.commander ≡ false → ((verdict_of s ds).obeyed ≡ Some true) ↔ AreObedient s ds
  obeyed_is ds long loyal =
      let all = list_all (λ d. d == s.order) (of_loyal s L ds) in (
        (λ h i a.
            let f : Some all ≡ Some true = rw loyal at h in
            let g : all ≡ true = cc in
            eqb-true (slice_index ds i) s.order (loyal_one (λ d. d == s.order) L ds long g i a.within a.loyal)),
        (λ h. rw loyal (ap Some (loyal_all (λ d. d == s.order) L ds long (λ i a b. eq-eqb (slice_index ds i) s.order (h i (record { within = a; loyal = b })))))),
      )

  bound_is : (ds : List ℕ) → ((verdict_of s ds).bound ≡ true) ↔ IsBound s.generals s.bound (is_traitor s)
  bound_is ds =
      let n = count_by (is_traitor s) (generals s.generals) in (
        (λ h.
            let p = and_parts (nat_lt (3 * s.bound) s.generals) (nat_le n s.bound) h in
            record { enough = ltb-true (3 * s.bound) s.generals p.0; few = leb-true n s.bound p.1 }),
        (λ b. and_from (nat_lt (3 * s.bound) s.generals) (nat_le n s.bound) (lt-ltb (3 * s.bound) s.generals b.enough) (le-leb n s.bound b.few)),
      )

  traitor_is : (ds : List ℕ) → is_traitor s s.commander ≡ true → (verdict_of s ds).obeyed ≡ None
  traitor_is ds h = rw h refl

  none_is : (ds : List ℕ) → ((verdict_of s ds).obeyed ≡ None) ↔ (is_traitor s s.commander ≡ true)
  none_is ds =
      let all = list_all (λ d. d == s.order) (of_loyal s L ds) in (
        (λ h.
            ⊎_elim
            (λ (x : is_traitor s s.commander ≡ true). x)
            (λ (x : is_traitor s s.commander ≡ false). absurd (let f : Some all ≡ None = rw x at h in cc))
            (cases_Bool (is_traitor s s.commander))),
        (λ h. traitor_is ds h),
      )

  never_disobeyed : (ds : List ℕ) → length ds ≡ length L → (is_traitor s s.commander ≡ false → AreObedient s ds) → (verdict_of s ds).obeyed ≢ Some false
  never_disobeyed ds long h e =
      ⊎_elim
      (λ (x : is_traitor s s.commander ≡ true). absurd (let f : None ≡ Some false = sym (traitor_is ds x) ∙ e in cc))
      (λ (x : is_traitor s s.commander ≡ false). absurd (let f : Some true ≡ Some false = sym ((obeyed_is ds long x).1 (h x)) ∙ e in cc))
      (cases_Bool (is_traitor s s.commander))

  kept_is : (ds : List ℕ) → length ds ≡ length L → (IsBound s.generals s.bound (is_traitor s) → AgreeInList s.generals s.commander s.order (is_traitor s) ds) → (verdict_of s ds).bound ≡ true
      → ((verdict_of s ds).alike ≡ true) × ((verdict_of s ds).obeyed ≢ Some false)
  kept_is ds long h b =
      let a = h ((bound_is ds).0 b) in
      ((alike_is ds long).1 a.alike, never_disobeyed ds long a.obeyed)

pub proved_verdicts_mean : VerdictsMean
unfolding decisions
proved_verdicts_mean = record {
  bound = bound_is;
  alike = alike_is;
  obeyed = obeyed_is;
  none = none_is;
  kept = λ s events is done b.
      let M = messages (run (opening s) events).closed in
      let A : Scenario → Type 0 = λ v. (verdict_of v (decisions v M)).bound ≡ true → ((verdict_of v (decisions v M)).alike ≡ true) × ((verdict_of v (decisions v M)).obeyed ≢ Some false) in
      subst A (sym (run_scenario oral_kind events (opening s))) (kept_is s (decisions s M) (length-map (lieutenants s.generals s.commander) _) (λ bound. proved_decisions_agree s events is done (proved_bound_suffices s bound))) b;
}
