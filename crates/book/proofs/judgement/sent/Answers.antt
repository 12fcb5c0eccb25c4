use Rattle.std.proofs.Common.{◌≡◌, ◌<◌, ◌∷◌, [], ◌∙◌, arith, sym, ap, map, length, lit<, ℕ, refl}
use Rattle.label.specs.Labels.{others}
use Rattle.book.specs.Conditions.{sent}
use Rattle.book.specs.Table.{told}
use Rattle.book.proofs.Gathering.{map_yes, map_no, few_others, off_first, on_first}
use Rattle.book.proofs.judgement.sent.Goals as goal
use Rattle.book.proofs.judgement.sent.Goals.{then-general-commander, else-general-commander}

pub push-requires : goal.push-requires
push-requires g c =
    let few = few_others (told (g.H.Heard.seen c.args.table.now).messages ((g.H.Heard.seen c.args.table.now).commander ∷ [])) ((g.H.Heard.seen c.args.table.now).commander ∷ []) c.loop-general.general in
    let so = ap length c.loop-general.invariant in
    let within = c.generals-general-end.ensures.value in
    let small = c.generals-general-end.ensures.within.few in
    let room : length c.loop-general.orders.items < 13 = omega arith in
    (lit< tt, room)

pub loop-general-preserved : goal.loop-general-preserved
loop-general-preserved g c =
    let F = told (g.H.Heard.seen c.args.table.now).messages ((g.H.Heard.seen c.args.table.now).commander ∷ []) in
    let commander : c.commander-commander.result ≡ (g.H.Heard.seen c.args.table.now).commander = c.commander-commander.ensures.value in
    elim c.if-general-commander.branch [
      | then-general-commander w ↦
          let off = off_first (g.H.Heard.seen c.args.table.now).commander c.loop-general.general [] (λ e. w.if-general-commander.true (e ∙ sym commander)) refl in
          rw (w.orders-is, w.push.ensures.items, c.loop-general.invariant, w.told.ensures, c.of-label.ensures, commander) (sym (map_yes F ((g.H.Heard.seen c.args.table.now).commander ∷ []) c.loop-general.general off))
      | else-general-commander w ↦
          let first = on_first (g.H.Heard.seen c.args.table.now).commander c.loop-general.general [] (w.if-general-commander.false ∙ commander) in
          rw (w.orders-is, c.loop-general.invariant) (sym (map_no F ((g.H.Heard.seen c.args.table.now).commander ∷ []) c.loop-general.general first))
    ]

pub returns : goal.returns
unfolding sent
returns g c =
    let value = c.generals-general-end.ensures.value in
    let all : c.loop-general.general ≡ (g.H.Heard.seen c.args.table.now).generals = omega arith in
    c.loop-general.invariant ∙ ap (λ (n : ℕ). map (told (g.H.Heard.seen c.args.table.now).messages ((g.H.Heard.seen c.args.table.now).commander ∷ [])) (others n ((g.H.Heard.seen c.args.table.now).commander ∷ []))) all
