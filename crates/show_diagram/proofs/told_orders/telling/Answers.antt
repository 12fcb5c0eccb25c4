use Rattle.std.proofs.Common.{◌≡◌, ◌++◌, ◌∷◌, [], true, ap, arith, sym, ◌∙◌}
use Rattle.book.specs.Grammar.{is_place}
use Rattle.show_tree.proofs.PlaceLemmas.{teller_told}
use Rattle.show_diagram.proofs.told_orders.telling.Goals as goal

pub told-requires : goal.told-requires
told-requires g c =
    let place : is_place (g.H.Heard.seen c.args.table.now) (c.args.label.now ++ c.args.teller ∷ []) c.args.general ≡ true = ap (λ w. is_place (g.H.Heard.seen c.args.table.now) w c.args.general) (sym c.requires.next) ∙ c.requires.place in
    teller_told (g.H.Heard.seen c.args.table.now) c.args.label.now c.args.teller c.args.general (let v = c.len-size.ensures.value in let s = c.len-size.ensures.some in omega arith) place
