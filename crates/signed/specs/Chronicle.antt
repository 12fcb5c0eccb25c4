-- The chronicle of a signed campaign (own; TOPLAS 1982, conditions IC1 and IC2, for the verdict).
use Rattle.std.specs.Prelude.{ℕ, ◌==◌, nat_le, cond, List, map, count_by, None, Some}
use Rattle.std.specs.List.{list_all}
use Rattle.label.specs.Labels.{generals}
use Rattle.label.specs.Lieutenants.{lieutenants}
use Rattle.book.specs.Conditions.{are_alike}
use Rattle.board.specs.Board.{Access}
use Rattle.round.specs.Scenario.{Scenario, is_traitor}
use Rattle.round.specs.Letters.{Letter}
use Rattle.world.specs.declared.verdict.Verdict.{Verdict}
use Rattle.world.specs.Kind.{World}
use Rattle.world.specs.Chronicle.{Chronicle, of_loyal}
use Rattle.signed.specs.Accepted.{decided}
use Rattle.signed.specs.Kind.{accepted_in}

-- Returns the order on which each lieutenant decides from the letters of these rounds, ascending by lieutenant.
unfoldable pub signed_decisions : Scenario → List (List Letter) → List ℕ
signed_decisions s closed = map (λ p. decided (accepted_in s closed p)) (lieutenants s.generals s.commander)

-- Returns the verdict on the decisions: whether the loyal lieutenants decide on the same order, whether they obey a
-- loyal commander, and whether there are at most m traitors. If the commander is a traitor, `obeyed` is `None`.
abbrev pub signed_verdict_of : Scenario → List ℕ → Verdict
signed_verdict_of s ds =
    let loyal = of_loyal s (lieutenants s.generals s.commander) ds in
    record {
      alike = are_alike loyal;
      obeyed = cond (is_traitor s s.commander) None (Some (list_all (λ d. d == s.order) loyal));
      bound = nat_le (count_by (is_traitor s) (generals s.generals)) s.bound;
    }

-- Returns the chronicle of these letters, accesses and decisions, with the verdict on the decisions.
abbrev pub signed_chronicle_with : Scenario → List (List Letter) → List Access → List ℕ → Chronicle
signed_chronicle_with s letters accesses ds = record {
  scenario = s;
  letters = letters;
  accesses = accesses;
  decisions = ds;
  verdict = signed_verdict_of s ds;
}

-- Returns the chronicle of a world: its letters, its accesses, the lieutenants' decisions from the chains, and the
-- verdict on these.
abbrev pub signed_chronicle_of : World → Chronicle
signed_chronicle_of w = signed_chronicle_with w.scenario w.closed w.ledger (signed_decisions w.scenario w.closed)
