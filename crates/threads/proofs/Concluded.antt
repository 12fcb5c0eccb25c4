-- If a ledger accounts for letters, their chronicle is the one of the ledger's replay, which is a complete run. What
-- holds for chronicles of complete runs therefore holds for it.
use Rattle.std.proofs.Common.{◌≡◌, ℕ, suc, List, [], All, sym, ap, subst, ◌∙◌}
use Rattle.board.specs.Board.{Access, IsLegal}
use Rattle.round.specs.Scenario.{Scenario, IsScenario}
use Rattle.round.specs.Letters.{Letter, messages}
use Rattle.world.specs.World.{oral_kind, World}
use Rattle.world.specs.Lists.{replayed, names_in}
use Rattle.world.specs.Accounted.{AreAccounted}
use Rattle.world.specs.Chronicle.{decisions, chronicle_with, chronicle_of}
use Rattle.world.specs.Replay.{replay_of}
use Rattle.world.specs.Safety.{IsShort}
use Rattle.world.proofs.Accounting.{accounted_again}
use Rattle.world.proofs.Untrapped.{held}
use Rattle.world.proofs.Campaigns.{oral_campaigns}

module _ (s : Scenario) (ledger : List Access) (rows : List (List Letter)) (is : IsScenario s) (legal : IsLegal s.board ledger) (accounted : AreAccounted s [] ledger rows) where
  pub concluded : (ds : List ℕ) → ds ≡ decisions s (messages rows) → chronicle_with s rows ledger ds ≡ chronicle_of (replay_of s ledger)
  concluded ds d = ap (chronicle_with s rows ledger) d ∙ ap chronicle_of (sym (accounted_again oral_kind s (oral_campaigns s is) ledger rows legal accounted))

  closed_are : (replay_of s ledger).closed ≡ rows
  closed_are = ap (λ (w : World). w.closed) (accounted_again oral_kind s (oral_campaigns s is) ledger rows legal accounted)

  pub all_short : All (λ row. All IsShort row) rows
  all_short = subst (λ (closed : List (List Letter)). All (λ row. All IsShort row) closed) closed_are (held oral_kind s (replayed s (names_in 1 ledger (suc s.bound))) (oral_campaigns s is)).short
