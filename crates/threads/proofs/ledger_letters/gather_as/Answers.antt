use Rattle.std.proofs.Common.{rules, ◌≡◌, ◌+◌, ℕ, suc, Bool, List, [], ◌∷◌, Option, Some, None, Result, Ok, Err, true, false, refl, sym, subst, ◌∙◌, arith}
use Rattle.std.specs.Prelude.{IfErr, MatchBool, MatchOption}
use Rattle.round.specs.Letters.{Letter}
use Rattle.round.specs.Origin.{AreRoundsOf}
use Rattle.world.specs.Kind.{each}
use Rattle.world.specs.KindAccounted.{letters_by, rounds_of, AreAccounted}
use Rattle.threads.specs.Taking.{IsGrid}
use Rattle.threads.specs.declared.error.MusterError.{MusterError}
use Rattle.threads.specs.declared.error.MusterError.TheVariants.{Unaccounted}
use Rattle.threads.proofs.Grids.{grid_of}
use Rattle.threads.proofs.Whose.{rounds_are}
use Rattle.threads.proofs.ledger_letters.gather_as.Goals as goal

-- If a property holds for every error, it holds for this one.
any_error : {T E : Type 0} {P : E → Type 0} (r : Result T E) → ((e : E) → P e) → IfErr r P
any_error (Ok t) all = tt
any_error (Err e) all = all e

-- If a check fails, the value is missing or the condition does not hold.
not_there : {T : Type 0} {absent : Type 0} (there : T → Type 0) (o : Option T) (r : Result T MusterError) (e : MusterError) → r ≡ Err e
    → MatchOption o (r ≡ Err Unaccounted) (λ own. r ≡ Ok own) → MatchOption o absent there → absent
not_there there None r e fails refused is = is
not_there there (Some own) r e fails refused is = absurd (let q = sym refused ∙ fails in cc)

not_so : (is_so : Bool) (r : Result (Unit {0}) MusterError) (e : MusterError) → r ≡ Err e → MatchBool is_so (r ≡ Ok tt) (r ≡ Err Unaccounted) → is_so ≡ false
not_so true r e fails refused = absurd (let q = sym refused ∙ fails in cc)
not_so false r e fails refused = refl

pub returns-in_err-rows-clause-unaccounted : goal.returns-in_err-rows-clause-unaccounted
returns-in_err-rows-clause-unaccounted g c =
    let s = c.args.scenario.now in
    let letters = c.args.letters.items in
    let generals : c.from-generals.result ≡ s.generals = (let a = c.from-generals.ensures in let b = c.generals.ensures.same in omega arith) in
    let rounds : c.from-rounds.result + 1 ≡ suc s.bound = (let a = c.from-rounds.ensures in let b = c.bound.ensures.same in omega arith) in
    let none : IsGrid c.from-generals.result (c.from-rounds.result + 1) letters → ⊥ = not_there _ c.in_ok-arrange.field-0 c.found.result c.in_err-rows.field-0.0 c.in_err-rows.was c.found.ensures c.in_ok-arrange.ensures.grid in
    any_error c.from_residual-in_err-rows.result (λ e same h.
    none (subst (λ (n : ℕ). IsGrid n (c.from-rounds.result + 1) letters) (sym generals) (subst (λ (r : ℕ). IsGrid s.generals r letters) (sym rounds) (grid_of g.D.Delivered.kind s c.args.ledger.now letters h))))

pub returns-in_err-told-clause-unaccounted : goal.returns-in_err-told-clause-unaccounted
returns-in_err-told-clause-unaccounted g c =
    let s = c.args.scenario.now in
    let letters = c.args.letters.items in
    let generals : c.from-generals.result ≡ s.generals = (let a = c.from-generals.ensures in let b = c.generals.ensures.same in omega arith) in
    let rounds : c.from-rounds.result + 1 ≡ suc s.bound = (let a = c.from-rounds.ensures in let b = c.bound.ensures.same in omega arith) in
    let taken : c.in_ok-rows.rows.items ≡ each (c.from-rounds.result + 1) (λ r. letters_by c.from-generals.result (suc r) letters ∷ []) = search rules in
    let all : c.as_slice.result.now ≡ rounds_of s letters = c.as_slice.ensures.value ∙ (taken ∙ (λ i. each (rounds i) (λ r. letters_by (generals i) (suc r) letters ∷ []))) in
    let none : AreRoundsOf s c.as_slice.result.now → ⊥ = not_there _ c.in_ok-deliver_all.field-0 c.found-2.result c.in_err-told.field-0.0 c.in_err-told.was c.found-2.ensures c.in_ok-deliver_all.ensures in
    any_error c.from_residual-in_err-told.result (λ e same h.
    none (subst (λ (rows : List (List Letter)). AreRoundsOf s rows) (sym all) (rounds_are g.D.Delivered.kind g.met.D.Delivered.shapes s c.args.ledger.now (rounds_of s letters) h.1)))

pub returns-in_err-accounted-clause-unaccounted : goal.returns-in_err-accounted-clause-unaccounted
returns-in_err-accounted-clause-unaccounted g c =
    let s = c.args.scenario.now in
    let letters = c.args.letters.items in
    let generals : c.from-generals.result ≡ s.generals = (let a = c.from-generals.ensures in let b = c.generals.ensures.same in omega arith) in
    let rounds : c.from-rounds.result + 1 ≡ suc s.bound = (let a = c.from-rounds.ensures in let b = c.bound.ensures.same in omega arith) in
    let taken : c.in_ok-rows.rows.items ≡ each (c.from-rounds.result + 1) (λ r. letters_by c.from-generals.result (suc r) letters ∷ []) = search rules in
    let all : c.as_slice-2.result.now ≡ rounds_of s letters = c.as_slice-2.ensures.value ∙ (taken ∙ (λ i. each (rounds i) (λ r. letters_by (generals i) (suc r) letters ∷ []))) in
    let unlike : c.in_ok-are_accounted.are_accounted ≡ false = not_so c.in_ok-are_accounted.are_accounted c.accounted.result c.in_err-accounted.field-0.0 c.in_err-accounted.was c.accounted.ensures in
    any_error c.from_residual-in_err-accounted.result (λ e same h.
    let found : false ≡ true = sym unlike ∙ c.in_ok-are_accounted.ensures.1 (subst (λ (rows : List (List Letter)). AreAccounted g.D.Delivered.kind s [] c.args.ledger.now rows) (sym all) h.1) in
    cc)
