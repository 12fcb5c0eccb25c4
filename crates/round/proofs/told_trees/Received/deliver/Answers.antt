-- All trees are filled in one walk of the labels.
use Rattle.std.proofs.Common.{◌+◌, ◌++◌, ◌∷◌, [], ◌∙◌, ℕ, List, suc, arith, sym, ap, subst}
use Rattle.std.proofs.lemmas.List.{with_items_is}
use Rattle.tree.specs.LieutenantTree.{LieutenantTree}
use Rattle.round.specs.Origin.{AreLettersOf}
use Rattle.round.specs.Told.{AreOfCampaign, ToldSeen, WasTold}
use Rattle.round.specs.Delivery.{AreApart, AreDueIn, AreEach, IsTold}
use Rattle.round.proofs.Filling.{letters_due, trees_apart, trees_due, told_more}
use Rattle.round.proofs.told_trees.Received.deliver.Goals as goal

pub deliver_to_all-requires-clause-letters : goal.deliver_to_all-requires-clause-letters
deliver_to_all-requires-clause-letters c =
    let s = c.args.scenario.now in let row = c.args.letters.now in
    subst (λ (n : ℕ). AreOfCampaign n c.commander.result row) (sym c.generals.ensures.same)
    (subst (λ (d : ℕ). AreOfCampaign s.generals d row) (sym c.commander.ensures.same) (letters_due s c.args.self.now.rounds row c.requires.letters))

pub deliver_to_all-requires-clause-trees : goal.deliver_to_all-requires-clause-trees
deliver_to_all-requires-clause-trees c =
    let s = c.args.scenario.now in let row = c.args.letters.now in
    let due = trees_due s c.requires.told.0 row c.args.self.now c.recall.ensures c.requires.told.1 c.requires.letters c.requires.left in
    subst (λ (n : ℕ). AreDueIn n c.commander.result row c.as_mut_slice.result.now) (sym c.generals.ensures.same)
    (subst (λ (d : ℕ). AreDueIn s.generals d row c.as_mut_slice.result.now) (sym c.commander.ensures.same)
    (subst (λ (ts : List LieutenantTree). AreDueIn s.generals s.commander row ts) (ap (λ (h : ToldSeen). h.trees) (sym c.self.view_is) ∙ sym c.as_mut_slice.ensures.value) due))

pub deliver_to_all-requires-clause-apart : goal.deliver_to_all-requires-clause-apart
deliver_to_all-requires-clause-apart c =
    subst (λ (ts : List LieutenantTree). AreApart ts) (ap (λ (h : ToldSeen). h.trees) (sym c.self.view_is) ∙ sym c.as_mut_slice.ensures.value) (trees_apart c.args.scenario.now c.requires.told.0 c.args.self.now c.requires.told.1)

pub returns : goal.returns
returns c before told =
    let s = c.args.scenario.now in let row = c.args.letters.now in
    let told' = subst (λ (h : ToldSeen). WasTold s before h) (sym c.self.view_is) told in
    let due : AreLettersOf s (suc c.self.inside.rounds) row = subst (λ (h : ToldSeen). AreLettersOf s (suc h.rounds) row) (sym c.self.view_is) c.requires.letters in
    let each : AreEach (IsTold row) c.self.inside.trees.items c.deliver_to_all.new.trees = subst (λ (ts : List LieutenantTree). AreEach (IsTold row) ts c.deliver_to_all.new.trees) c.as_mut_slice.ensures.value c.deliver_to_all.ensures in
    let n = each.count in
    let long = c.self.inside.trees.ok.0 in
    let more = told_more s before row _ c.deliver_to_all.new.trees c.recall.ensures told' due each in
    subst (λ (ts : List LieutenantTree). WasTold s (before ++ row ∷ []) (record { rounds = c.self.inside.rounds + 1; trees = ts })) (sym (with_items_is c.self.inside.trees c.deliver_to_all.new.trees (omega arith))) more
