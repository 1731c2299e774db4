use Rattle.kinds.proofs.NestingLevel.container_include_fields.Goals as goal

pub returns-in-Top : goal.returns-in-Top
returns-in-Top c = rw c.in-Top.is

pub returns-in-Within : goal.returns-in-Within
returns-in-Within c = rw c.in-Within.is
