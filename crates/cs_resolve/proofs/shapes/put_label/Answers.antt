use Rattle.std.proofs.Common.{rules}
use Rattle.cs_resolve.proofs.LabelSets.{quoted_left_out, label_put}
use Rattle.cs_resolve.proofs.shapes.put_label.Goals as goal

pub returns-in_ok-insert : goal.returns-in_ok-insert
returns-in_ok-insert c ls held = label_put c.args.labels.now ls c.args.field.now held (search rules) c.insert.new.self c.as_str.result c.as_str.ensures.value c.in_ok-insert.ensures.updates

pub returns-else-not-field : goal.returns-else-not-field
returns-else-not-field c ls held = quoted_left_out c.args.labels.now ls c.args.field.now held (search rules)
