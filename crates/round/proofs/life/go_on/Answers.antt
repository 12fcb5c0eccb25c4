-- One turn is taken, and then turns that are no requests.
use Rattle.std.proofs.Common.{◌≡◌, Option, true, subst, arith}
use Rattle.std.specs.Prelude.{IfSome}
use Rattle.semantics.specs.Call.{fits}
use Rattle.board.specs.Board.{Access}
use Rattle.round.proofs.Onwards.{silently_later}
use Rattle.round.proofs.Served.{served_silently, served_more, given_up_behind, any_error}
use Rattle.round.proofs.life.go_on.Goals as goal

pub returns-in_default-clause-way : goal.returns-in_default-clause-way
returns-in_default-clause-way g c start before way =
    let e = c.in_ok-access.ensures in
    served_silently c.args.general c.args.round start before c.args.running.now c.next.new.self c.ahead.new.self c.args.transcript.now.items _ _ _ c.in_default.is way e.turn e.same e.served c.ahead.ensures.went c.ahead.ensures.same

pub returns-in_default-clause-later : goal.returns-in_default-clause-later
returns-in_default-clause-later g c =
    let later = silently_later c.next.new.self c.ahead.new.self c.ahead.ensures.went in
    let one = c.in_ok-access.ensures.one in
    omega arith

pub returns-clause-way : goal.returns-clause-way
returns-clause-way g c start before way =
    let e = c.in_ok-access.ensures in
    let own = subst (λ (o : Option Access). IfSome o (λ a. (a.general ≡ c.args.general) × (a.round ≡ c.args.round))) c.in-Some.is e.own in
    let fit = subst (λ (o : Option Access). IfSome o (λ a. fits a.request a.reply ≡ true)) c.in-Some.is e.fits in
    served_more c.args.general c.args.round start before c.args.running.now c.next.new.self c.ahead-2.new.self c.args.transcript.now.items _ _ _ _ c.in-Some.access c.in-Some.is way e.turn own fit e.same e.served
    c.ahead-2.ensures.went c.ahead-2.ensures.same c.in_ok-push.ensures.items

pub returns-clause-later : goal.returns-clause-later
returns-clause-later g c =
    let later = silently_later c.next.new.self c.ahead-2.new.self c.ahead-2.ensures.went in
    let one = c.in_ok-access.ensures.one in
    omega arith

pub returns-in_err-push-clause-given_up : goal.returns-in_err-push-clause-given_up
returns-in_err-push-clause-given_up g c =
    let e = c.in_ok-access.ensures in
    let own = subst (λ (o : Option Access). IfSome o (λ a. (a.general ≡ c.args.general) × (a.round ≡ c.args.round))) c.in-Some.is e.own in
    let fit = subst (λ (o : Option Access). IfSome o (λ a. fits a.request a.reply ≡ true)) c.in-Some.is e.fits in
    any_error c.from_residual-in_err-push.result _ (λ start before way.
    given_up_behind c.args.general c.args.round start before c.args.running.now c.next.new.self c.args.transcript.now.items _ _ _ c.in-Some.access c.in-Some.is way e.turn own fit e.same e.served)
