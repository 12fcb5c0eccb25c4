use Rattle.std.proofs.Common.{◌∙◌, arith, sym}
use Rattle.std.proofs.lemmas.Result.{IfOk-weaker}
use Rattle.byzlab.proofs.BesideLemmas.{path_from}
use Rattle.byzlab.proofs.folder.path_of.Goals as goal

pub returns-in-Some : goal.returns-in-Some
returns-in-Some c =
    let e = sym (c.starts_with.ensures.byte (omega arith) (omega arith) (λ w o q. q)) ∙ c.if-starts_with.false in
    IfOk-weaker c.format.result _ _ (λ s h. path_from c.args.scenario.now c.args.name.now _ c.in-Some.folder.now e (rw c.in-Some.is at c.folder_of.ensures) h) c.format.ensures.ok
