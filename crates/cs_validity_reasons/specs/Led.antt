-- Causes with keys of any kind, and the pairs that they lead to.
use Rattle.std.specs.Prelude.{ℕ, Bool, true, false, Option, Some, None}
use Rattle.cs_validity_reasons.specs.declared.cause.KeyedCause.{KeyedCause}
use Rattle.cs_validity_reasons.specs.declared.cause.KeyedCause.TheVariants.{Reference, Part, Alternative, Property, Additional, Prefix, Items}

-- with keys by their places
abbrev pub PlacedCause : Type 0
PlacedCause = KeyedCause ℕ

abbrev pub leads_to : {K : Type 0} → KeyedCause K → Option (ℕ × ℕ)
leads_to (Reference item rule) = Some (item, rule)
leads_to (Part item rule place) = Some (item, rule)
leads_to (Alternative item rule place) = Some (item, rule)
leads_to (Property key item rule) = Some (item, rule)
leads_to (Additional key item rule) = Some (item, rule)
leads_to (Prefix place item rule) = Some (item, rule)
leads_to (Items place item rule) = Some (item, rule)
leads_to _ = None

abbrev pub is_alternative : {K : Type 0} → KeyedCause K → Bool
is_alternative (Alternative item rule place) = true
is_alternative _ = false
