-- The post's claim holds for each letter that is taken.
use Rattle.std.proofs.Common.{rules, ◌≡◌, [], ◌∷◌, ◌++◌, List, Option, append_assoc, sym, ap, ◌∙◌, subst}
use Rattle.std.specs.Prelude.{IfSome, MatchOption}
use Rattle.std.proofs.lemmas.List.Sorted.{All-permutation}
use Rattle.round.specs.Letters.{Letter}
use Rattle.threads.proofs.Popped.{more_all}
use Rattle.threads.proofs.round_letters.take_letters.Goals as goal

pub loop-preserved : goal.loop-preserved
loop-preserved g c =
    let letter = c.in-Some-taken.letter in
    let before = c.loop.collector.taken in
    let after = c.take-again.result.0.taken in
    let came : after ≡ before ++ letter ∷ [] = subst (λ (o : Option Letter). MatchOption o (after ≡ before) (λ (l : Letter). after ≡ before ++ l ∷ [])) c.in-Some-taken.is c.take-again.ensures.taken in
    let claim = subst (λ (o : Option Letter). IfSome o g.C.Claim.holds) c.in-Some-taken.is c.take-again.ensures.claim in record {
      post = search rules;
      taken = came ∙ (ap (λ (l : List Letter). l ++ letter ∷ []) c.loop.invariant.taken ∙ (append_assoc c.args.collector.taken c.loop.letters.items (letter ∷ []) ∙ ap (λ (l : List Letter). c.args.collector.taken ++ l) (sym c.in_ok-push.ensures.items)));
      claims = more_all g.C.Claim.holds c.loop.letters.items c.push.new.self.items letter c.loop.invariant.claims claim c.in_ok-push.ensures.items;
    }

pub returns-clause-claims : goal.returns-clause-claims
returns-clause-claims g c = All-permutation g.C.Claim.holds c.loop.letters.items c.by_general.result.items c.by_general.ensures.same c.loop.invariant.claims
