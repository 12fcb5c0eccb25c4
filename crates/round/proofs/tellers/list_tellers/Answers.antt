-- One more general is considered.
use Rattle.std.proofs.Common.{◌≡◌, ◌≤◌, ◌+◌, ◌∙◌, ℕ, false, not, cond, refl, ap, arith, length-set}
use mir.Val.{bool_byte}
use Rattle.std.specs.Prelude.{slice_index, slice_index_or}
use Rattle.outbox.specs.Orders.{orders_seen}
use Rattle.outbox.specs.Rows.{order_in}
use Rattle.outbox.specs.declared.orders.Orders.{Orders}
use Rattle.round.specs.Letters.{letter_of}
use Rattle.round.specs.Delivery.{order_in_letter}
use Rattle.round.proofs.Gathering.{counted, next_gathered, one_at_most, or_nobody}
use Rattle.round.proofs.tellers.list_tellers.Goals as goal

pub loop-general-preserved : goal.loop-general-preserved
loop-general-preserved c =
    let h = c.loop-general.invariant in let x = c.loop-general.general in let f = c.args.front.now in let row = c.args.letters.now in
    let one : c.from-count.result ≡ cond {A = ℕ} (not (slice_index_or f.on x false)) 1 0 = counted (not (slice_index_or f.on x false)) bool_byte refl refl (c.from-count.ensures ∙ ap (λ (g : ℕ). bool_byte (not (slice_index_or f.on g false))) c.from-number.ensures) in
    let most : c.from-count.result ≤ 1 = one_at_most c.from-count.result (not (slice_index_or f.on x false)) one in
    record {
      few = (let a = h.few in omega arith);
      long = length-set c.loop-general.names c.loop-general.count x ∙ h.long;
      wide = length-set c.loop-general.rows c.loop-general.count c.unwrap_or.result ∙ h.wide;
      told = λ posted.
          next_gathered row c.args.generals f x _ (record { count = c.loop-general.count; generals = c.loop-general.names; rows = c.loop-general.rows }) c.unwrap_or.result (h.told posted) c.loop-general-test.true c.requires.few
          (ap (λ (m : ℕ). c.loop-general.count + m) one)
          (λ p. ap (λ (r : Orders). order_in p (orders_seen r)) c.unwrap_or.ensures ∙ or_nobody c.row_in.result p ∙ c.row_in.ensures p posted ∙ ap (λ (g : ℕ). order_in_letter (letter_of row x) (slice_index f.ranks g) p) c.from-number.ensures);
    }
