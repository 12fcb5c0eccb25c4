-- The task is the general's duty.
use Rattle.std.proofs.Common.{◌+◌, ◌∙◌, List, ap, sym, arith}
use Rattle.round.specs.Letters.{Letter}
use Rattle.round.specs.Scenario.{program_of}
use Rattle.signed.specs.Kind.{signed_context, signed_relay}
use Rattle.signed.specs.Logs.{begun_entries}
use Rattle.signed_threads.proofs.Outsets.{all_rounds, context_long, duty_is, is_outset, is_shape, is_told}
use Rattle.signed_threads.proofs.delivered_chains.DeliveredChainsDelivered.task.Goals as goal

pub given-requires-clause-context : goal.given-requires-clause-context
given-requires-clause-context c =
    let s = c.args.scenario.now in
    let g = c.args.general in
    let told = c.requires.told in
    let counted = told.1.rounds in
    let rounds = c.rounds-rounds.ensures in
    let all = all_rounds told.0 c.rounds-rounds.result (omega arith) in
    let e = c.in_ok-context.ensures in
    let context = e.context told.0 told.1 ∙ ap (λ (b : List (List Letter)). signed_context s b g) all in
    let relay = e.relay told.0 told.1 ∙ ap (λ (b : List (List Letter)). signed_relay s b g) all in
    context_long s told.0 g c.recall.ensures c.requires.general (let left = c.requires.left in omega arith) c.from.result (c.from-2.result + 1) c.in_ok-context.context.items c.in_ok-context.outbox c.from.ensures (let wide = c.from-2.ensures in omega arith) context relay e.rows

pub given-requires-clause-own : goal.given-requires-clause-own
given-requires-clause-own c =
    let s = c.args.scenario.now in
    let g = c.args.general in
    let told = c.requires.told in
    let counted = told.1.rounds in
    let rounds = c.rounds-rounds.ensures in
    let all = all_rounds told.0 c.rounds-rounds.result (omega arith) in
    let e = c.in_ok-context.ensures in
    let context = e.context told.0 told.1 ∙ ap (λ (b : List (List Letter)). signed_context s b g) all in
    let relay = e.relay told.0 told.1 ∙ ap (λ (b : List (List Letter)). signed_relay s b g) all in
    is_told s told.0 g c.recall.ensures c.requires.general (let left = c.requires.left in omega arith) c.from.result (c.from-2.result + 1) c.in_ok-context.context.items c.in_ok-context.outbox c.from.ensures (let wide = c.from-2.ensures in omega arith) context relay e.rows

pub given-requires-clause-shape : goal.given-requires-clause-shape
given-requires-clause-shape c =
    let s = c.args.scenario.now in
    let g = c.args.general in
    let told = c.requires.told in
    let counted = told.1.rounds in
    let rounds = c.rounds-rounds.ensures in
    let all = all_rounds told.0 c.rounds-rounds.result (omega arith) in
    let e = c.in_ok-context.ensures in
    let context = e.context told.0 told.1 ∙ ap (λ (b : List (List Letter)). signed_context s b g) all in
    let relay = e.relay told.0 told.1 ∙ ap (λ (b : List (List Letter)). signed_relay s b g) all in
    is_shape s told.0 g c.recall.ensures c.requires.general (let left = c.requires.left in omega arith) c.from.result (c.from-2.result + 1) c.in_ok-context.context.items c.in_ok-context.outbox c.from.ensures (let wide = c.from-2.ensures in omega arith) context relay e.rows

pub given-requires-clause-outset : goal.given-requires-clause-outset
given-requires-clause-outset c =
    let s = c.args.scenario.now in
    let g = c.args.general in
    let told = c.requires.told in
    let counted = told.1.rounds in
    let rounds = c.rounds-rounds.ensures in
    let all = all_rounds told.0 c.rounds-rounds.result (omega arith) in
    let e = c.in_ok-context.ensures in
    let context = e.context told.0 told.1 ∙ ap (λ (b : List (List Letter)). signed_context s b g) all in
    let relay = e.relay told.0 told.1 ∙ ap (λ (b : List (List Letter)). signed_relay s b g) all in
    let has = c.in_ok-program.ensures ∙ c.seat.ensures in
    let entries = e.entries told.0 told.1 ∙ (ap (λ (b : List (List Letter)). begun_entries s b g (program_of s g)) all ∙ ap (begun_entries s told.0 g) (sym has)) in
    is_outset s told.0 g c.recall.ensures c.requires.general (let left = c.requires.left in omega arith) c.from.result (c.from-2.result + 1) c.in_ok-context.context.items c.in_ok-context.outbox c.from.ensures (let wide = c.from-2.ensures in omega arith) context relay e.rows
    c.in_ok-program.program entries

pub returns-clause-duty : goal.returns-clause-duty
returns-clause-duty c before told =
    let s = c.args.scenario.now in
    let g = c.args.general in
    let counted = told.rounds in
    let rounds = c.rounds-rounds.ensures in
    let all = all_rounds before c.rounds-rounds.result (omega arith) in
    let e = c.in_ok-context.ensures in
    let context = e.context before told ∙ ap (λ (b : List (List Letter)). signed_context s b g) all in
    let relay = e.relay before told ∙ ap (λ (b : List (List Letter)). signed_relay s b g) all in
    let entries = e.entries before told ∙ ap (λ (b : List (List Letter)). begun_entries s b g (program_of s g)) all in
    c.given.ensures
    ∙ duty_is s before g c.recall.ensures c.requires.general (let left = c.requires.left in omega arith) c.from.result (c.from-2.result + 1) c.in_ok-context.context.items c.in_ok-context.outbox c.from.ensures (let wide = c.from-2.ensures in omega arith) context relay e.rows
    c.in_ok-program.program c.patience.result (c.in_ok-program.ensures ∙ c.seat.ensures) c.patience.ensures entries
