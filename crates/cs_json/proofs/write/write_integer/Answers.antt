use Rattle.std.proofs.Common.{rules}
use Rattle.json.proofs.Printed.Decimals.{IsNumber-signed_decimal}
use Rattle.cs_json.proofs.write.write_integer.Goals as goal

pub take-requires : goal.take-requires
take-requires g c = search (rules, IsNumber-signed_decimal)
