use Rattle.std.proofs.Common.{ℕ, ◌≡◌, ◌*◌, ◌%◌, ◌^◌, List, length, sym, ap, subst, ◌∙◌, arith, inl, inr, Option}
use Rattle.std.specs.Prelude.{IfSome}
use Rattle.std.proofs.lemmas.Bool.{cases_lt}
use Rattle.std.proofs.lemmas.Nat.{one_shl}
use Rattle.lies.specs.Attempts.{NoneCheaperAmong, Succeeds, attempts, members}
use Rattle.lies.specs.Search.{IsFoundAmong, cheaper_break, success_of}
use Rattle.lies.specs.declared.found.Found.{Found}
use Rattle.lies.proofs.SetLemmas.{all_sets, found_more, found_now, now_none, still_none}
use Rattle.lies.proofs.search.cheapest_break.Goals as goal
use Rattle.lies.proofs.search.cheapest_break.Goals.{then-len-from+in_ok-success, else-len-from}

pub returns-clause-least : goal.returns-clause-least
returns-clause-least g c =
    let few = c.requires.few in
    let all : 1 * 2 ^ c.args.generals % 2 ^ 32 ≡ 2 ^ c.args.generals = one_shl c.args.generals 32 (omega arith) in
    let test = c.loop-set-test.false in
    let end = c.loop-set.auto.set-end in
    all_sets (g.C.Combine.combined c.args.rule.now) c.args.generals c.args.bound c.args.commander c.args.count (success_of c.loop-set.best) (λ set l many. c.loop-set.invariant.least set (omega arith) many)

pub loop-set-preserved : goal.loop-set-preserved
loop-set-preserved g c =
    let f : List ℕ → ℕ = g.C.Combine.combined c.args.rule.now in
    let P : Found → Type 0 = IsFoundAmong (g.C.Combine.combined c.args.rule.now) c.args.generals c.args.bound c.args.commander c.args.count in
    let is : c.members-traitors.result.items ≡ members c.args.generals c.loop-set.set = c.members-traitors.ensures in
    elim c.if-len-from.branch [
      | then-len-from+in_ok-success w ↦
          let now : c.if-len-from.best ≡ cheaper_break c.loop-set.best c.members-traitors.result w.in_ok-success.success = w.best-is ∙ w.cheaper-best.ensures in
          let long : length c.members-traitors.result.items ≡ c.args.count = sym c.len.ensures.value ∙ (w.if-len-from.true ∙ c.from.ensures) in
          let own : w.as_slice.result.now ≡ c.members-traitors.result.items = w.as_slice.ensures.value in
          let Q : Option Found → Type 0 = λ o. IfSome o P in
          let L : List ℕ → Option Found → Type 0 = λ ts o. NoneCheaperAmong (g.C.Combine.combined c.args.rule.now) c.args.generals c.args.bound c.args.commander (success_of o) ts in
          record {
            found = subst Q (sym now) (found_more P c.loop-set.best c.members-traitors.result w.in_ok-success.success c.loop-set.invariant.found
                (found_now f c.args.generals c.args.bound c.args.commander c.args.count c.loop-set.set c.members-traitors.result w.in_ok-success.success is long
                (subst (λ (ts : List ℕ). IfSome w.in_ok-success.success (Succeeds (g.C.Combine.combined c.args.rule.now) c.args.generals c.args.bound c.args.commander ts)) own w.in_ok-success.ensures.success)));
            least = λ set l many. elim (cases_lt set c.loop-set.set) [
              | inl before ↦ subst (L (members c.args.generals set)) (sym now)
                  (still_none f c.args.generals c.args.bound c.args.commander (members c.args.generals set) (attempts c.args.generals c.args.commander (members c.args.generals set)) c.loop-set.best c.members-traitors.result w.in_ok-success.success
                  (c.loop-set.invariant.least set before many))
              | inr last ↦
                  let same : c.loop-set.set ≡ set = omega arith in
                  let there : w.as_slice.result.now ≡ members c.args.generals set = own ∙ (is ∙ ap (members c.args.generals) same) in
                  subst (L (members c.args.generals set)) (sym now)
                  (now_none f c.args.generals c.args.bound c.args.commander (members c.args.generals set) (attempts c.args.generals c.args.commander (members c.args.generals set)) c.loop-set.best c.members-traitors.result w.in_ok-success.success
                  (subst (λ (ts : List ℕ). NoneCheaperAmong (g.C.Combine.combined c.args.rule.now) c.args.generals c.args.bound c.args.commander w.in_ok-success.success ts) there w.in_ok-success.ensures.least))
            ];
          }
      | else-len-from w ↦
          let Q : Option Found → Type 0 = λ o. IfSome o P in
          let L : List ℕ → Option Found → Type 0 = λ ts o. NoneCheaperAmong (g.C.Combine.combined c.args.rule.now) c.args.generals c.args.bound c.args.commander (success_of o) ts in
          record {
            found = subst Q (sym w.best-is) c.loop-set.invariant.found;
            least = λ set l many. elim (cases_lt set c.loop-set.set) [
              | inl before ↦ subst (L (members c.args.generals set)) (sym w.best-is) (c.loop-set.invariant.least set before many)
              | inr last ↦
                  let same : c.loop-set.set ≡ set = omega arith in
                  absurd (w.if-len-from.false (c.len.ensures.value ∙ (ap length (is ∙ ap (members c.args.generals) same) ∙ (many ∙ sym c.from.ensures))))
            ];
          }
    ]
