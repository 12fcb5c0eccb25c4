-- The letters of the last round are removed from the trees of all lieutenants.
use Rattle.std.proofs.Common.{◌≡◌, ◌≢◌, ℕ, suc, ◌+◌, ◌-◌, ◌<◌, ◌≤◌, List, [], ◌∷◌, ◌++◌, length, get_or, true, false, sym, ap, ◌∙◌, Some, arith, ⊎_elim, length-append}
use Rattle.std.specs.Prelude.{slice_get, ◌==◌}
use Rattle.std.proofs.lemmas.Bool.Decides.{eqb_tells}
use Rattle.std.proofs.lemmas.Option.{slice_get_within, slice_get-get_or}
use Rattle.label.specs.Oral.{Messages}
use Rattle.label.proofs.Listing.{proved_labels_are_exact}
use Rattle.tree.specs.LieutenantTree.{LieutenantTree, IsFilled, SameCampaign, blank}
use Rattle.tree.proofs.Blanks.{blank-here, blank-other}
use Rattle.round.specs.Scenario.{Scenario, IsScenario}
use Rattle.round.specs.Letters.{Letter, messages}
use Rattle.round.specs.Told.{IsTreeOf, ToldSeen, WasTold, lieutenant_at}
use Rattle.round.proofs.Delivering.{levels-same}
use Rattle.round.proofs.EachTree.{AreChangedTo}
use Rattle.round.proofs.Filling.{messages-past, messages-none}

length-more : (before : List (List Letter)) (row : List Letter) → length (before ++ row ∷ []) ≡ suc (length before)
length-more before row = let l = length-append before (row ∷ []) in omega arith

-- At least one round was delivered.
pub some_told : (s : Scenario) (before : List (List Letter)) (row : List Letter) (h : ToldSeen) → WasTold s (before ++ row ∷ []) h → h.rounds ≡ suc (length before)
some_told s before row h told = told.rounds ∙ length-more before row

-- The messages without the letters of the last round.
forgotten : (before : List (List Letter)) (row : List Letter) (k : ℕ) (w : List ℕ) (p : ℕ) → k ≡ suc (length before) → 0 < length w → blank (messages (before ++ row ∷ [])) k w p ≡ messages before w p
forgotten before row k w p ek some = ⊎_elim
    (λ (q : (length w == k ≡ true) × (length w ≡ k)).
    blank-here (messages (before ++ row ∷ [])) k w p q.1 ∙ sym (messages-none before w p (let e = q.1 in omega arith)))
    (λ (q : (length w == k ≡ false) × (length w ≢ k)).
    blank-other (messages (before ++ row ∷ [])) k w p q.1 ∙ messages-past before row w p some (λ e. q.1 (e ∙ sym ek)))
    (eqb_tells (length w) k)

-- One tree without that round.
tree_less : (s : Scenario) (before : List (List Letter)) (row : List Letter) (g k : ℕ) (t u : LieutenantTree) → IsScenario s → k ≡ suc (length before) → IsTreeOf s (before ++ row ∷ []) g t → SameCampaign t u → ((M : Messages) → IsFilled t M → IsFilled u (blank M k)) →
    IsTreeOf s before g u
tree_less s before row g k t u is ek h same fill = record {
  generals = same.generals ∙ h.generals;
  bound = same.bound ∙ h.bound;
  commander = same.commander ∙ h.commander;
  general = same.general ∙ h.general;
  within = h.within;
  lieutenant = h.lieutenant;
  filled = fill (messages (before ++ row ∷ [])) h.filled ∙ levels-same u.generals u.commander u.general (blank (messages (before ++ row ∷ [])) k) (messages before) 1 (u.bound + 1) (λ j i w le at.
      let commander : u.commander < u.generals = rw (same.commander, h.commander, same.generals, h.generals) is.commander in
      let general : u.general < u.generals = rw (same.general, h.general, same.generals, h.generals) h.within in
      let ne : u.general ≢ u.commander = λ e. h.lieutenant (sym (same.general ∙ h.general) ∙ (e ∙ (same.commander ∙ h.commander))) in
      let long : length w ≡ j = (proved_labels_are_exact.only u.generals u.commander u.general j i w commander general ne at).2 in
      forgotten before row k w u.general ek (omega arith));
}

-- All trees without that round.
pub told_less : (s : Scenario) (before : List (List Letter)) (row : List Letter) (h : ToldSeen) (trees : List LieutenantTree) (i : ℕ) → IsScenario s → WasTold s (before ++ row ∷ []) h → AreChangedTo h.trees (λ M. blank M h.rounds) i trees → length trees ≤ i →
    WasTold s before (record { rounds = h.rounds - 1; trees = trees })
told_less s before row h trees i is told changed all =
    let rounds : h.rounds ≡ suc (length before) = some_told s before row h told in
    record {
      rounds = omega arith;
      count = ap (λ (k : ℕ). k + 1) changed.count ∙ told.count;
      trees = λ j u now.
          let inside : j < length trees = slice_get_within trees j u now in
          let less : j < length h.trees = let f = changed.count in omega arith in
          let was : slice_get h.trees j ≡ Some (get_or h.trees j u) = slice_get-get_or h.trees j u less in
          let both = changed.done j (get_or h.trees j u) u (omega arith) was now in
          tree_less s before row (lieutenant_at s.commander j) h.rounds (get_or h.trees j u) u is rounds (told.trees j (get_or h.trees j u) was) both.0 both.1;
    }
