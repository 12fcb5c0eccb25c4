-- The reply of each access that a move makes fits its request.
use Rattle.std.proofs.Common.{◌≡◌, ℕ, suc, length, refl, Option, Some, None}
use Rattle.std.specs.Prelude.{slice_get}
use Rattle.board.specs.Board.{IsBoard, reply}
use Rattle.board.proofs.Serving.{reply_fits}
use Rattle.round.specs.Activation.{Activation, Turn, Goes, Asks, Ended, turn}
use Rattle.round.specs.Runs.{AreFitting}
use Rattle.round.proofs.Going.{turn_within}
use Rattle.round.proofs.Fitting.{fitting_more}
use Rattle.world.specs.declared.event.Event.{Event}
use Rattle.world.specs.declared.event.Event.TheVariants.{Tick, Post, Close}
use Rattle.world.specs.Part.{Progress, Acting, Silent, Posted}
use Rattle.world.specs.Kind.{Kind, World, served, ticked, posting, happen}
use Rattle.world.specs.KindLists.{IsMove}

served_fitting : (w : World) (g : ℕ) (a : Activation) (o : Turn) → turn a ≡ o → IsBoard w.words → AreFitting w.ledger → AreFitting (served w g o).ledger
served_fitting w g a (Goes b) e board h = h
served_fitting w g a (Asks q f) e board h =
    fitting_more w.ledger (record { general = g; round = suc (length w.closed); request = q; reply = reply w.words q }) h (reply_fits w.words q board (turn_within a q f e))
served_fitting w g a Ended e board h = h

ticked_fitting : (w : World) (g : ℕ) (o : Option Progress) → IsBoard w.words → AreFitting w.ledger → AreFitting (ticked w g o).ledger
ticked_fitting w g None board h = h
ticked_fitting w g (Some (Acting a)) board h = served_fitting w g a (turn a) refl board h
ticked_fitting w g (Some Silent) board h = h
ticked_fitting w g (Some Posted) board h = h

posting_fitting : (w : World) (g : ℕ) (o : Option Progress) → AreFitting w.ledger → AreFitting (posting w g o).ledger
posting_fitting w g None h = h
posting_fitting w g (Some (Acting a)) h = h
posting_fitting w g (Some Silent) h = h
posting_fitting w g (Some Posted) h = h

module _ (K : Kind) where
  pub move_fitting : (w : World) (e : Event) → IsMove e → IsBoard w.words → AreFitting w.ledger → AreFitting (happen K w e).ledger
  move_fitting w (Tick g) i board h = ticked_fitting w g (slice_get w.parts g) board h
  move_fitting w (Post g) i board h = posting_fitting w g (slice_get w.parts g) h
  move_fitting w Close i board h = absurd i
