-- The extensions of the label fill one run of ranks.
use Rattle.std.proofs.Common.{rules, ◌≡◌, ◌<◌, ◌≤◌, ◌+◌, ◌-◌, ◌*◌, ◌^◌, ◌∙◌, ℕ, suc, Some, length, sym, ap, arith}
use Rattle.std.specs.Prelude.{slice_get, slice_index}
use Rattle.std.proofs.lemmas.Option.{slice_get_within}
use Rattle.outbox.specs.Orders.{orders_seen}
use Rattle.outbox.specs.Rows.{order_in}
use Rattle.outbox.specs.declared.orders.Orders.{Orders}
use Rattle.round.specs.Told.{lieutenant_at}
use Rattle.round.proofs.Delivering.{told_each}
use Rattle.round.proofs.Naming.{tells_past}
use Rattle.round.proofs.Walking.{children_fit, row_fits, told_ends, under_one, suc_times}
use Rattle.round.proofs.tellers.fill_children.Goals as goal

pub overflow_mul-first : goal.overflow_mul-first
overflow_mul-first c =
    let sp = c.space-space.ensures in
    let ew : c.saturating_sub-width.result ≡ c.args.tree.now.generals - (c.args.front.now.size + 1) = let e = c.saturating_sub-width.ensures in let a = c.from.ensures in let b = c.from-2.ensures in let n = sp.generals in let l = c.requires.last in omega arith in
    let h : slice_index c.args.front.now.ranks c.from-3.result * c.saturating_sub-width.result < 2 ^ 32 =
    row_fits c.args.tree.now c.requires.told.0 c.requires.told.1 c.args.size c.args.front.now c.requires.told.2 sp.kind c.from-3.result c.saturating_sub-width.result (c.from-3.ensures ∙ sp.general) ew in
    omega arith

pub set_run-requires-clause-within : goal.set_run-requires-clause-within
set_run-requires-clause-within c =
    let sp = c.space-space.ensures in let f = c.args.front.now in
    let ew : c.saturating_sub-width.result ≡ c.args.tree.now.generals - c.args.size = let e = c.saturating_sub-width.ensures in let a = c.from.ensures in let b = c.from-2.ensures in let n = sp.generals in omega arith in
    children_fit c.args.tree.now c.requires.told.0 c.requires.told.1 c.args.size f c.requires.told.2 c.requires.last sp.kind _ c.saturating_sub-width.result ew
    (ap (λ (g : ℕ). slice_index f.ranks g * c.saturating_sub-width.result) (c.from-3.ensures ∙ sp.general))

pub returns : goal.returns
returns c row places walk a =
    let sp = c.space-space.ensures in let t = c.args.tree.now in let f = c.args.front.now in
    let r = slice_index f.ranks t.general in
    let width = c.saturating_sub-width.result in
    let start = slice_index f.ranks c.from-3.result * width in
    let ew : width ≡ t.generals - c.args.size = let e = c.saturating_sub-width.ensures in let a = c.from.ensures in let b = c.from-2.ensures in let n = sp.generals in omega arith in
    let last = c.requires.last in
    let ef : start ≡ r * width = ap (λ (g : ℕ). slice_index f.ranks g * width) (c.from-3.ensures ∙ sp.general) in
    let run = c.set_run.ensures.filled in
    let long : length run.0 ≡ width = run.1.long in
    let fits : start + width ≤ _ = children_fit t row places c.args.size f walk last sp.kind start width ew ef in
    let told = told_each t row c.args.size start c.set_run.new.self run.0 sp.kind c.set_run.ensures.same
    (λ place v w there stands.
    let inside : place < length run.0 = slice_get_within run.0 place v there in
    let within : place < width = omega arith in
    let answer : (r : Orders) → slice_get c.args.rows.now (lieutenant_at c.args.own place) ≡ Some r → v ≡ order_in c.space-space.result.general (orders_seen r) = (λ r at. let p = run.1.each place v there in search rules) in
    tells_past t row places c.args.size f walk sp.kind c.args.own c.args.rows.now a last start width place ew ef within v
    (λ r at. answer r at ∙ ap (λ (g : ℕ). order_in g (orders_seen r)) sp.general) w stands)
    (omega arith) run.2 in
    let first : start ≡ r * (t.generals - c.args.size) = ef ∙ ap (λ (v : ℕ). r * v) ew in
    let past_all : start + length run.0 ≡ r * (t.generals - c.args.size) + (t.generals - c.args.size) = omega arith in
    told_ends t row c.args.size _ _ _ _ c.set_run.new.self (first ∙ sym (under_one t.generals r f.size c.args.size last))
    (past_all ∙ (suc_times r (t.generals - c.args.size) ∙ sym (under_one t.generals (suc r) f.size c.args.size last))) told
