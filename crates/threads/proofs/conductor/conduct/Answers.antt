-- The delivered letters are those of the next round.
use Rattle.std.proofs.Common.{rules, ◌∷◌, [], ◌++◌, suc, List, sym, subst}
use Rattle.std.specs.Prelude.{All}
use Rattle.round.specs.Letters.{Letter}
use Rattle.round.specs.Origin.{AreLettersOf}
use Rattle.threads.proofs.Popped.{more_all}
use Rattle.threads.proofs.conductor.conduct.Goals as goal

pub add-requires-clause-letters : goal.add-requires-clause-letters
add-requires-clause-letters g c =
    subst (λ (letters : List Letter). AreLettersOf c.args.scenario.now (suc (g.D.Delivered.count c.loop-round.told)) letters) (sym c.as_slice.ensures.value) c.in_ok-again.ensures.letters

pub loop-round-preserved : goal.loop-round-preserved
loop-round-preserved g c =
    let old = c.loop-round.invariant in
    let s = c.args.scenario.now in
    let rows = c.loop-round.rows.items in
    let told = c.add.new.self in
    record {
      told = subst (λ (all : List (List Letter)). g.D.Delivered.was_told s all told) (sym c.in_ok-push.ensures.items)
          (subst (λ (letters : List Letter). g.D.Delivered.was_told s (rows ++ letters ∷ []) told) c.as_slice.ensures.value (c.in_ok-add.ensures.told rows old.told));
      count = search rules;
      long = search rules;
      post = search rules;
      claims = more_all (λ (letters : List Letter). All g.C.Claim.holds letters) c.loop-round.rows.items c.push.new.self.items c.in_ok-again.letters.items old.claims c.in_ok-again.ensures.claims c.in_ok-push.ensures.items;
    }
