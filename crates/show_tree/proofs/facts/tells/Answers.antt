use Rattle.std.proofs.Common.{◌≡◌, ◌++◌, ◌∷◌, [], true, ap, arith, sym, ◌∙◌}
use Rattle.book.specs.Grammar.{is_place}
use Rattle.show_tree.proofs.PlaceLemmas.{place_above}
use Rattle.show_tree.proofs.facts.tells.Goals as goal

pub told-requires-2 : goal.told-requires-2
told-requires-2 g c =
    let place : is_place (g.H.Heard.seen c.args.table.now) (c.args.label.now ++ c.args.teller ∷ []) c.args.general ≡ true = ap (λ w. is_place (g.H.Heard.seen c.args.table.now) w c.args.general) (sym c.requires.next) ∙ c.requires.place in
    place_above (g.H.Heard.seen c.args.table.now) c.args.label.now c.args.teller c.args.general (let v = c.len-size.ensures.value in let s = c.len-size.ensures.some in omega arith) place
