-- If a ledger accounts for signed letters, their chronicle is the one of the ledger's replay, which is a complete run.
-- What holds for chronicles of complete runs therefore holds for it.
use Rattle.std.proofs.Common.{◌≡◌, ℕ, suc, List, [], sym, ap, subst, ◌∙◌}
use Rattle.std.specs.Prelude.{All}
use Rattle.board.specs.Board.{Access, IsLegal}
use Rattle.round.specs.Scenario.{Scenario, IsScenario}
use Rattle.round.specs.Letters.{Letter}
use Rattle.world.specs.Kind.{World}
use Rattle.world.specs.KindAccounted.{AreAccounted}
use Rattle.world.specs.KindLists.{names_in, replay_world, replayed}
use Rattle.world.specs.Safety.{IsShort}
use Rattle.world.proofs.Accounting.{accounted_again}
use Rattle.world.proofs.Untrapped.{held}
use Rattle.signed.specs.Chronicle.{signed_chronicle_of, signed_chronicle_with, signed_decisions}
use Rattle.signed.specs.Kind.{signed_kind}
use Rattle.signed.proofs.Worlds.{signed_campaigns}

module _ (s : Scenario) (ledger : List Access) (rows : List (List Letter)) (is : IsScenario s) (legal : IsLegal s.board ledger) (accounted : AreAccounted signed_kind s [] ledger rows) where
  pub concluded : (ds : List ℕ) → ds ≡ signed_decisions s rows → signed_chronicle_with s rows ledger ds ≡ signed_chronicle_of (replay_world signed_kind s ledger)
  concluded ds d = ap (signed_chronicle_with s rows ledger) d ∙ ap signed_chronicle_of (sym (accounted_again signed_kind s (signed_campaigns s is) ledger rows legal accounted))

  closed_are : (replay_world signed_kind s ledger).closed ≡ rows
  closed_are = ap (λ (w : World). w.closed) (accounted_again signed_kind s (signed_campaigns s is) ledger rows legal accounted)

  pub all_short : All (λ row. All IsShort row) rows
  all_short = subst (λ (closed : List (List Letter)). All (λ row. All IsShort row) closed) closed_are (held signed_kind s (replayed signed_kind s (names_in 1 ledger (suc s.bound))) (signed_campaigns s is)).short
