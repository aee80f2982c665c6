use Rattle.std.proofs.Common.{◌≡◌, rules}
use Rattle.serde_json.specs.Data.{null, object, member, no_members}
use Rattle.serde_json.specs.View.{view}
use Rattle.serde_json.specs.declared.value.Value.{the_lemmas}
use Rattle.jobs.proofs.shown.absent.Goals as goal

pub returns-in_ok-json-clause-json : goal.returns-in_ok-json-clause-json
returns-in_ok-json-clause-json c =
    let built : view c.in_ok-json.field-0 ≡ object (member c.args.name.now null no_members) = search (rules, the_lemmas) in
    search rules
