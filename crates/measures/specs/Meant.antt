-- The kit that the code's `Kit` stands for. A file of its own, since it names that struct.
use Rattle.measures.specs.Kit.{Kit, kit}
use Rattle.measures.specs.declared.Kit.{Kit as CodeKit}

abbrev pub meant : CodeKit → Kit
meant k = kit k.measure k.n
