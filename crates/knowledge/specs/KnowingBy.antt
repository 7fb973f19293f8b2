use Rattle.knowledge.specs.Knowing.{Knowledge as Known}
use Rattle.knowledge.specs.declared.knowledge.Knowledge.{Knowledge as Inside}

-- what contracts see of what is known
abbrev pub known : Inside → Known
known k = record { book = k.book; audit = k.audit.audit; jobs = k.jobs.items; last_job = k.last_job }
