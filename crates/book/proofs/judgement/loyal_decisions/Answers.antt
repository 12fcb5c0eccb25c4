use Rattle.std.proofs.Common.{◌≡◌, ◌<◌, ◌≤◌, ◌∷◌, ◌∙◌, arith, sym, ap, map, length, lit<, ℕ}
use Rattle.label.specs.Labels.{others}
use Rattle.book.specs.Conditions.{loyal_decisions}
use Rattle.book.specs.Decisions.{decision_of}
use Rattle.book.proofs.Gathering.{map_yes, map_no, few_others, off_first, on_first, on_behind}
use Rattle.book.proofs.judgement.loyal_decisions.Goals as goal
use Rattle.book.proofs.judgement.loyal_decisions.Goals.{then-general-commander+then-not-is_named, else-general-commander, else-general-commander-via-then-general-commander+else-not-is_named, else-general-commander-via-else-general-commander}

pub push-requires : goal.push-requires
push-requires g c =
    let few : length (map (decision_of (g.H.Heard.seen c.args.table.now)) (others c.loop-general.general ((g.H.Heard.seen c.args.table.now).commander ∷ c.args.traitors.now))) ≤ c.loop-general.general = few_others (decision_of (g.H.Heard.seen c.args.table.now)) ((g.H.Heard.seen c.args.table.now).commander ∷ c.args.traitors.now) c.loop-general.general in
    let so = ap length c.loop-general.invariant in
    let within = c.generals-general-end.ensures.value in
    let small = c.generals-general-end.ensures.within.few in
    let room : length c.loop-general.decisions.items < 13 = omega arith in
    (lit< tt, room)

pub loop-general-preserved : goal.loop-general-preserved
loop-general-preserved g c =
    let F = decision_of (g.H.Heard.seen c.args.table.now) in
    let commander : c.commander-commander.result ≡ (g.H.Heard.seen c.args.table.now).commander = c.commander-commander.ensures.value in
    elim c.if-general-commander.branch [
      | then-general-commander+then-not-is_named w ↦
          let off = off_first (g.H.Heard.seen c.args.table.now).commander c.loop-general.general c.args.traitors.now (λ e. w.if-general-commander.true (e ∙ sym commander)) (sym w.is_named.ensures ∙ w.if-not-is_named.true) in
          rw (w.decisions-is, w.push.ensures.items, c.loop-general.invariant, w.decision.ensures) (sym (map_yes F ((g.H.Heard.seen c.args.table.now).commander ∷ c.args.traitors.now) c.loop-general.general off))
      | else-general-commander w ↦
          elim w.else-general-commander.branch [
            | else-general-commander-via-then-general-commander+else-not-is_named w' ↦
                let named = on_behind (g.H.Heard.seen c.args.table.now).commander c.loop-general.general c.args.traitors.now (sym w'.is_named.ensures ∙ w'.if-not-is_named.false) in
                rw (w.decisions-is, c.loop-general.invariant) (sym (map_no F ((g.H.Heard.seen c.args.table.now).commander ∷ c.args.traitors.now) c.loop-general.general named))
            | else-general-commander-via-else-general-commander w' ↦
                let first = on_first (g.H.Heard.seen c.args.table.now).commander c.loop-general.general c.args.traitors.now (w'.if-general-commander.false ∙ commander) in
                rw (w.decisions-is, c.loop-general.invariant) (sym (map_no F ((g.H.Heard.seen c.args.table.now).commander ∷ c.args.traitors.now) c.loop-general.general first))
          ]
    ]

pub returns : goal.returns
unfolding loyal_decisions
returns g c =
    let value = c.generals-general-end.ensures.value in
    let all : c.loop-general.general ≡ (g.H.Heard.seen c.args.table.now).generals = omega arith in
    c.loop-general.invariant ∙ ap (λ (n : ℕ). map (decision_of (g.H.Heard.seen c.args.table.now)) (others n ((g.H.Heard.seen c.args.table.now).commander ∷ c.args.traitors.now))) all
