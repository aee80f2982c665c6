use Rattle.std.proofs.Common.{◌≡◌, ◌++◌, Some, string_bytes, rules, refl}
use Rattle.jobs.specs.Serving.{framed}
use Rattle.jobs.proofs.serve.Batch.take.Goals as goal

pub returns-in-Compact-clause-step : goal.returns-in-Compact-clause-step
returns-in-Compact-clause-step g c =
    let answer = string_bytes c.in-Ok-obey.text in
    let more : string_bytes c.keep-in-Ok-obey.new.self.answers ≡ string_bytes c.args.self.now.answers ++ framed c.args.style.is_framed answer = search rules in
    record {
      command = Some c.in-Ok.command;
      text = framed c.args.style.is_framed answer;
      answers = record { answer = answer; answers = c.in-Ok-obey.ensures.answer; is = refl };
      is = more;
    }

pub returns-in_default : goal.returns-in_default
returns-in_default g c =
    let answer = string_bytes c.in-Ok-obey.text in
    let more : string_bytes c.keep-in-Ok-obey.new.self.answers ≡ string_bytes c.args.self.now.answers ++ framed c.args.style.is_framed answer = search rules in
    record {
      step = record {
        command = Some c.in-Ok.command;
        text = framed c.args.style.is_framed answer;
        answers = record { answer = answer; answers = c.in-Ok-obey.ensures.answer; is = refl };
        is = more;
      };
      clean = search rules;
      crash = search rules;
    }
