use Rattle.std.proofs.Common.{◌≡◌, codes, rules}
use Rattle.serde_json.specs.Data.{number, unsigned, object, member, no_members}
use Rattle.serde_json.specs.View.{view}
use Rattle.serde_json.specs.declared.value.Value.{the_lemmas}
use Rattle.jobs.proofs.shown.number_text.Goals as goal

pub returns-in_ok-json : goal.returns-in_ok-json
returns-in_ok-json c =
    let built : view c.in_ok-json.field-0 ≡ object (member (codes "number") (number (unsigned c.args.id)) no_members) = search (rules, the_lemmas) in
    search rules
