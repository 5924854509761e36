-- A refusal of the table, as one of this crate.
use Rattle.cs_table.specs.declared.fault.TableFault.{TableFault}
use Rattle.cs_table.specs.declared.fault.TableFault.TheVariants as table
use Rattle.cs_instance.specs.declared.fault.InstanceFault.{InstanceFault}
use Rattle.cs_instance.specs.declared.fault.InstanceFault.TheVariants as instance

abbrev pub fault_of : TableFault → InstanceFault
fault_of table.OutOfMemory = instance.OutOfMemory
fault_of (table.TooManyPairs items rules) = instance.TooManyPairs items rules
