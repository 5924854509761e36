-- The pairs that causes lead to.
use Rattle.std.specs.Prelude.{ℕ, Bool, true, false, Option, Some, None}
use Rattle.cs_instance_reasons.specs.declared.cause.InstanceCause.{InstanceCause}
use Rattle.cs_instance_reasons.specs.declared.cause.InstanceCause.TheVariants.{Part, Alternative, Member, Element}

abbrev pub leads_to : InstanceCause → Option (ℕ × ℕ)
leads_to (Part item rule place) = Some (item, rule)
leads_to (Alternative item rule place) = Some (item, rule)
leads_to (Member declaration member item rule) = Some (item, rule)
leads_to (Element place item rule) = Some (item, rule)
leads_to _ = None

abbrev pub is_alternative : InstanceCause → Bool
is_alternative (Alternative item rule place) = true
is_alternative _ = false
