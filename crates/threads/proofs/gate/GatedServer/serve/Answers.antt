-- Exactly the accesses that were served to the general are entered. Each has passed the gate, and all are among those
-- of the history that he has seen.
use Rattle.std.proofs.Common.{[], ◌==◌, ◌++◌, List, sym, subst}
use Rattle.std.specs.Prelude.{count_by}
use Rattle.board.specs.Board.{Access}
use Rattle.threads.specs.Served.{HavePassed, AreWitnessed}
use Rattle.threads.proofs.Among.{served_entered, entered_behind, still_behind}
use Rattle.threads.proofs.Passing.{passed_entered, passed_as}
use Rattle.threads.proofs.gate.GatedServer.serve.Goals as goal

pub invariant_of-self-2 : goal.invariant_of-self-2
invariant_of-self-2 g c =
    let said = g.G.Gate.passed c.self.inside.gate.now in
    let named = g.T.Session.passed in
    let before = g.T.Session.before in
    let known = c.self.invariant.1 in
    let made = c.make_room.new.self.accesses.items in
    let entered = c.serve_entered.new.made.accesses.items in
    let was = subst (λ (l : List Access). AreWitnessed (before ++ l) c.self.inside.me × HavePassed named [] l) (sym c.in_ok-make_room.ensures.same) (c.self.invariant.0, c.self.invariant.2) in
    let met = served_entered g.J.Room.opening c.args.general c.args.round c.args.request c.self.inside.me c.serve_entered.new.me (before ++ made) (before ++ entered) c.serve_entered.result
    c.serve_entered.ensures.serves
    (entered_behind before made entered c.args.general c.args.round c.args.request c.serve_entered.result c.serve_entered.ensures.entered)
    c.serve_entered.ensures.unserved
    (still_behind before made entered c.serve_entered.result c.serve_entered.ensures.unentered) was.0 in (
      met,
      known,
      passed_entered named c.args.general c.args.round c.args.request made entered c.serve_entered.result c.serve_entered.ensures.entered
          (passed_as said named c.args.general c.args.round (count_by (λ a. a.round == c.args.round) made) c.serve_entered.result known c.serve_entered.ensures.passed) c.serve_entered.ensures.unentered was.1,
    )
