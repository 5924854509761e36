-- What the default profile accepts stands for itself in the wide one (`DefaultRule`, `DefaultFiles`, `Default`), and what is printed declares the same
-- environment (`printed_package` in `UnplacedPackages`, `Judged`).
mod DefaultRule
mod DefaultFiles
mod Default
mod Judged
-- a literal with defaults, one with embeddings and one without, operands that are plain, fields that conditions ask for, and a literal under conditions, read
-- as they are written
mod Direct
mod AskedLiterals
mod Asked
mod GatheredKeys
mod Embedding
mod PlainOperands
mod AlternativeSteps
mod Alongside
mod OneMore
mod Conditional
-- offsets change nothing of trees, of closed bases, of which names are at fault, of the opening rule, and so of packages
mod UnplacedTrees
mod UnplacedBases
mod UnplacedPlaces
mod UnplacedRule
mod UnplacedPackages
