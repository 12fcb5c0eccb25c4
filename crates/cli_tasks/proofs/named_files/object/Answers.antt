use Rattle.std.proofs.Common.{◌≡◌, ◌∙◌, List, ℕ, ap, sym, refl, inr, string_bytes, option_map}
use Rattle.std.specs.Prelude.{Option}
use Rattle.hex.specs.Hex.{encode_lower}
use Rattle.object.specs.Entry.{entry_of}
use Rattle.scenario.specs.declared.reference_key.ReferenceKey.TheVariants.{Object}
use Rattle.scenario.specs.Asking.{Asked}
use Rattle.cli_tasks.proofs.Files.{beside_so}
use Rattle.cli_tasks.proofs.named_files.object.Goals as goal

pub returns-in_ok-object-in-Ok-clause-file : goal.returns-in_ok-object-in-Ok-clause-file
returns-in_ok-object-in-Ok-clause-file c =
    let own : option_map (λ f. f.now) c.as_deref-function.result ≡ c.args.named.now.function = c.as_deref-function.ensures.value ∙ ap (λ (a : Asked). a.function) c.named.view_is in
    beside_so c.args.named.now c.in_ok-object-in-Ok.field-0 Object (string_bytes c.in_ok-name.name) (encode_lower c.in-Ok.code.now) c.args.bytes.now (option_map (λ f. f.now) c.as_deref-function.result)
    c.requires (c.in_ok-name.ensures.cases ∙ ap (λ (a : Asked). a.name) c.named.view_is) own
    (c.in-Ok.code.now, ap (λ (f : Option (List ℕ)). entry_of c.args.bytes.now f) (sym own) ∙ c.in-Ok.ensures, refl) c.in_ok-object-in-Ok.ensures

pub returns-in_ok-refused-in-Err-clause-untaken : goal.returns-in_ok-refused-in-Err-clause-untaken
returns-in_ok-refused-in-Err-clause-untaken c =
    let own : option_map (λ f. f.now) c.as_deref-function.result ≡ c.args.named.now.function = c.as_deref-function.ensures.value ∙ ap (λ (a : Asked). a.function) c.named.view_is in
    (refl, inr (c.in-Err.fault, c.requires, ap (λ (f : Option (List ℕ)). entry_of c.args.bytes.now f) (sym own) ∙ c.in-Err.ensures, c.in_ok-refused-in-Err.ensures))
