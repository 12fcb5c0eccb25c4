use Rattle.std.proofs.Common.{ℕ, ◌≡◌, ◌<◌, List, sym, ap, subst, ◌∙◌, arith, inl, inr, Option}
use Rattle.std.specs.Prelude.{IfSome, filter}
use Rattle.std.proofs.lemmas.Bool.{cases_lt, false≢true}
use Rattle.label.specs.Labels.{generals}
use Rattle.lies.specs.Asked.{IsAsked, is_asked}
use Rattle.lies.specs.Attempts.{NoneCheaperAmong, attempts}
use Rattle.lies.specs.Commanders.{IsFoundUnder, cheaper_under, success_under}
use Rattle.lies.specs.Search.{success_of}
use Rattle.lies.specs.declared.found.FoundUnder.{FoundUnder}
use Rattle.lies.proofs.CommanderLemmas.{found_under, now_none_under, still_none_under}
use Rattle.lies.proofs.commanders.cheapest_asked.Goals as goal
use Rattle.lies.proofs.commanders.cheapest_asked.Goals.{then-is_asked+in_ok-found, else-is_asked}

pub returns-clause-least : goal.returns-clause-least
returns-clause-least g c d t asked many =
    let test = c.loop-commander-test.false in
    let end = c.loop-commander.auto.commander-end in
    let inside = asked.general in
    c.loop-commander.invariant.least d t (omega arith) asked many

pub loop-commander-preserved : goal.loop-commander-preserved
loop-commander-preserved g c =
    let f : List ℕ → ℕ = g.C.Combine.combined c.args.rule.now in
    let n : ℕ = c.args.generals in
    let within : c.loop-commander.commander < c.args.generals = c.loop-commander-test.true in
    elim c.if-is_asked.branch [
      | then-is_asked+in_ok-found w ↦
          let asked : IsAsked c.args.generals c.args.given c.loop-commander.commander = record { general = within; asked = sym c.is_asked.ensures ∙ w.if-is_asked.true } in
          let now : c.if-is_asked.best ≡ cheaper_under c.loop-commander.best c.loop-commander.commander w.in_ok-found.found = w.best-is ∙ w.cheaper-best.ensures in
          let Q : Option FoundUnder → Type 0 = λ o. IfSome o (IsFoundUnder (g.C.Combine.combined c.args.rule.now) c.args.generals c.args.bound c.args.given c.args.count) in
          let L : ℕ → List ℕ → Option FoundUnder → Type 0 = λ d ts o. NoneCheaperAmong (g.C.Combine.combined c.args.rule.now) c.args.generals c.args.bound d (success_under o) ts in
          record {
            found = subst Q (sym now) (found_under f c.args.generals c.args.bound c.args.given c.args.count c.loop-commander.best c.loop-commander.commander w.in_ok-found.found c.loop-commander.invariant.found asked w.in_ok-found.ensures.found);
            least = λ d t l it many. elim (cases_lt d c.loop-commander.commander) [
              | inl before ↦ subst (L d (filter t (generals c.args.generals))) (sym now)
                  (still_none_under f c.args.generals c.args.bound d (filter t (generals c.args.generals)) (attempts c.args.generals d (filter t (generals c.args.generals))) c.loop-commander.best c.loop-commander.commander w.in_ok-found.found
                  (c.loop-commander.invariant.least d t before it many))
              | inr last ↦
                  let same : c.loop-commander.commander ≡ d = omega arith in
                  subst (L d (filter t (generals c.args.generals))) (sym now)
                  (now_none_under f c.args.generals c.args.bound d (filter t (generals c.args.generals)) (attempts c.args.generals d (filter t (generals c.args.generals))) c.loop-commander.best c.loop-commander.commander w.in_ok-found.found
                  (subst (λ (e : ℕ). NoneCheaperAmong (g.C.Combine.combined c.args.rule.now) c.args.generals c.args.bound e (success_of w.in_ok-found.found) (filter t (generals c.args.generals))) same (w.in_ok-found.ensures.least t many)))
            ];
          }
      | else-is_asked w ↦
          let Q : Option FoundUnder → Type 0 = λ o. IfSome o (IsFoundUnder (g.C.Combine.combined c.args.rule.now) c.args.generals c.args.bound c.args.given c.args.count) in
          let L : ℕ → List ℕ → Option FoundUnder → Type 0 = λ d ts o. NoneCheaperAmong (g.C.Combine.combined c.args.rule.now) c.args.generals c.args.bound d (success_under o) ts in
          record {
            found = subst Q (sym w.best-is) c.loop-commander.invariant.found;
            least = λ d t l it many. elim (cases_lt d c.loop-commander.commander) [
              | inl before ↦ subst (L d (filter t (generals c.args.generals))) (sym w.best-is) (c.loop-commander.invariant.least d t before it many)
              | inr last ↦
                  let same : c.loop-commander.commander ≡ d = omega arith in
                  absurd (false≢true (sym w.if-is_asked.false ∙ (c.is_asked.ensures ∙ (ap (is_asked c.args.given) same ∙ it.asked))))
            ];
          }
    ]
