use Rattle.std.proofs.Common.{ℕ, ◌+◌, ◌-◌, ◌≡◌, ◌++◌, List, ap, sym, subst, ◌∙◌, arith, append-nil}
use Rattle.std.specs.Prelude.{min}
use Rattle.std.specs.Io.KnownBytes.{Appends}
use Rattle.surveyor.proofs.BrokenLemmas.{bounds_more, bounds_upto, sizes_more, sizes_upto, so_begins, so_ends, so_more, so_same}
use Rattle.surveyor.proofs.breaches.put_entries.Goals as goal

pub loop-generals-init : goal.loop-generals-init
loop-generals-init g c =
    let s = c.args.asked.now in
    let low = s.generals.low in
    let none : min low (s.generals.high + 1) - low ≡ 0 = omega arith in
    let start = g.O.Output.contents c.args.out.now in
    let now = g.O.Output.contents c.print.new.out in
    so_begins s c.args.family.now c.args.is_table start now (sizes_upto s.bound low (min low (s.generals.high + 1) - low)) (ap (sizes_upto s.bound low) none)
    (subst (λ (l : List ℕ). Appends start now l) c.break_header.ensures c.in_ok-print.ensures.written)

pub loop-bound-init : goal.loop-bound-init
loop-bound-init g c =
    let s = c.args.asked.now in
    let low = s.generals.low in
    let n = c.loop-generals.generals in
    let front = sizes_upto s.bound low (n - low) in
    let most = c.bounds_end-most.result in
    let all : min n (s.generals.high + 1) - low ≡ n - low = omega arith in
    let none : min s.bound.low most - s.bound.low ≡ 0 = omega arith in
    so_same s c.args.family.now c.args.is_table (g.O.Output.contents c.args.out.now) (g.O.Output.contents c.loop-generals.out) c.loop-generals.is_first _ _
    (ap (sizes_upto s.bound low) all ∙ (sym (append-nil front) ∙ ap (λ (k : ℕ). front ++ bounds_upto n s.bound.low k) (sym none))) c.loop-generals.invariant

pub loop-bound-preserved : goal.loop-bound-preserved
loop-bound-preserved g c =
    let s = c.args.asked.now in
    let low = s.generals.low in
    let n = c.loop-generals.generals in
    let m = c.loop-bound.bound in
    let most = c.bounds_end-most.result in
    let front = sizes_upto s.bound low (n - low) in
    let now = g.O.Output.contents c.loop-bound.out in
    let mid = g.O.Output.contents c.print-in-loop-bound.new.out in
    so_more s c.args.family.now c.args.is_table (g.O.Output.contents c.args.out.now) now mid (g.O.Output.contents c.put_entry.new.out) c.loop-bound.is_first
    (front ++ bounds_upto n s.bound.low (min m most - s.bound.low)) (front ++ bounds_upto n s.bound.low (min (m + 1) most - s.bound.low)) n m c.in_ok-put_entry.ensures.entry.0 c.loop-bound.invariant
    (bounds_more front n s.bound.low m (min m most - s.bound.low) (min (m + 1) most - s.bound.low) (omega arith) (omega arith) (omega arith))
    (subst (λ (l : List ℕ). Appends now mid l) c.gap.ensures c.in_ok-print-2.ensures.written) c.in_ok-put_entry.ensures.entry.1 c.in_ok-put_entry.ensures.entry.2

pub loop-generals-preserved : goal.loop-generals-preserved
loop-generals-preserved g c =
    let s = c.args.asked.now in
    let low = s.generals.low in
    let n = c.loop-generals.generals in
    let b = c.loop-bound.bound in
    let most = c.bounds_end-most.result in
    let is = c.bounds_end-most.ensures in
    so_same s c.args.family.now c.args.is_table (g.O.Output.contents c.args.out.now) (g.O.Output.contents c.loop-bound.out) c.loop-bound.is_first _ _
    (sizes_more s.bound low n (n - low) (min (n + 1) (s.generals.high + 1) - low) (min b most - s.bound.low) (omega arith) (omega arith) (omega arith) (omega arith)) c.loop-bound.invariant

pub returns-clause-broken : goal.returns-clause-broken
returns-clause-broken g c =
    let s = c.args.asked.now in
    let low = s.generals.low in
    let all : min c.loop-generals.generals (s.generals.high + 1) - low ≡ s.generals.high + 1 - low = omega arith in
    so_ends s c.args.family.now c.args.is_table (g.O.Output.contents c.args.out.now) (g.O.Output.contents c.loop-generals.out) c.loop-generals.is_first (sizes_upto s.bound low (min c.loop-generals.generals (s.generals.high + 1) - low))
    (ap (sizes_upto s.bound low) all) c.loop-generals.invariant
