use Rattle.std.proofs.Common.{◌≡◌, ◌≢◌, ℕ, ◌<◌, length, take, ap, sym, subst, ◌∙◌, Some, refl, arith, ⊎_elim, true, false}
use Rattle.std.specs.Prelude.{slice_get, ◌==◌}
use Rattle.std.proofs.lemmas.Bool.Decides.{eqb_tells}
use Rattle.std.proofs.lemmas.Option.{slice_get_read, slice_get_within}
use Rattle.std.proofs.lemmas.List.{length-take-le}
use Rattle.round.specs.Letters.{Letter}
use Rattle.round.specs.Scenario.{program_of}
use Rattle.world.specs.Kind.{accesses_of}
use Rattle.world.specs.KindAccounted.{IsLetterOf}
use Rattle.threads.proofs.account.holds_round.Goals as goal

pub loop-general-preserved : goal.loop-general-preserved
loop-general-preserved g c rows told k x lt at =
    let s = c.args.scenario.now in
    let before = take c.args.rounds rows in
    let i = c.loop-general.general in
    let j = c.from-in-loop-general.result in
    let letter : Letter = c.index-letters-from.result in
    let same : j ≡ i = c.from-in-loop-general.ensures in
    let holds : IsLetterOf g.D.Delivered.kind s before i (program_of s i) letter × (accesses_of i c.args.piece.now ≡ letter.transcript) = (c.in_ok-holds_letter.ensures rows told).0 c.if-not-branch.false in
    let inside : j < length c.args.letters.now = (let a = c.loop-general-test.true in let b = c.if-letters-from.false in let d = c.from.ensures in omega arith) in
    let there : slice_get c.args.letters.now i ≡ Some letter = ap (slice_get c.args.letters.now) (sym same) ∙ slice_get_read c.args.letters.now _ j letter refl inside c.index-letters-from.is in
    ⊎_elim
    (λ (q : (k == i ≡ true) × (k ≡ i)).
    let here : slice_get c.args.letters.now k ≡ Some letter = ap (slice_get c.args.letters.now) q.1 ∙ there in
    let one : letter ≡ x = (let f = sym here ∙ at in cc) in
    let A : ℕ → Letter → Type 0 = λ n y. IsLetterOf g.D.Delivered.kind s before n (program_of s n) y × (accesses_of n c.args.piece.now ≡ y.transcript) in
    subst (λ (n : ℕ). A n x) (sym q.1) (subst (λ (y : Letter). A i y) one holds))
    (λ (q : (k == i ≡ false) × (k ≢ i)). c.loop-general.invariant rows told k x (let ne = q.1 in omega arith) at)
    (eqb_tells k i)

pub returns : goal.returns
returns g c rows told =
    let counted = g.met.D.Delivered.counted c.args.scenario.now rows c.args.told.now told in
    let long_front : length (take c.args.rounds rows) ≡ c.args.rounds = length-take-le c.args.rounds rows (let a = c.requires.passed in omega arith) in
    let generals = c.generals-generals.ensures.same in
    let wide = c.from.ensures in
    let wider = c.from-else-letters-from.ensures in
    let long = c.if-letters-from.false in (
      λ _. record {
        count = (omega arith);
        each = λ k x at. c.loop-general.invariant rows told k x (let a = slice_get_within c.args.letters.now k x at in let b = c.loop-general-test.false in omega arith) at;
        entries = λ k d lt.
            let e = c.if-not-are_known.ensures.0 refl k d lt in
            (let a = e.0 in omega arith, let a = e.1 in let h = c.from-round.ensures in omega arith);
      },
      λ _. refl,
    )
