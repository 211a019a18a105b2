-- The code's commands as their words.
use Rattle.qvt_work.specs.Words as words
use Rattle.qvt_cli.specs.declared.words.Command.{Command}
use Rattle.qvt_cli.specs.declared.words.Command.TheVariants.{Run, Check, Print}

abbrev pub command_view : Command → words.CommandWords
command_view (Run job) = words.run job.now
command_view (Check metamodel model) = words.check metamodel.now model.now
command_view (Print file) = words.print file.now
