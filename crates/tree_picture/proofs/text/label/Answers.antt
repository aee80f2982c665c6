use Rattle.tree_picture.proofs.text.label.Goals as goal

pub returns-in-Full : goal.returns-in-Full
returns-in-Full g c = rw (c.in-Full.is, ← c.as_str-key.ensures.value) c.format.ensures.ok

pub returns-in-Uneven : goal.returns-in-Uneven
returns-in-Uneven g c = rw (c.in-Uneven.is, ← c.as_str-key.ensures.value) c.format-in-Uneven.ensures.ok

pub returns-in-Slack : goal.returns-in-Slack
returns-in-Slack g c = rw (c.in-Slack.is, ← c.as_str-key.ensures.value) c.format-in-Slack.ensures.ok
