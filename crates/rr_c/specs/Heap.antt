-- The right to free a block of the C library's heap.
use mir.Syntax.{Ty}
use base.Fml.{Fml}
use denote.RawPtr.{Ptr}
use Rattle.std.specs.declared.alloc.Global.{Global}
use Rattle.std.specs.contracts.impls.GlobalAllocator.TheImpl.{ghosts}

-- the handle of that heap, which takes no bytes
abbrev pub heap : Global
heap = record { memory = record { seal = tt } }

-- its owner may free the block of that type at an address
abbrev pub frees : Ty → Ptr → Fml
frees = ghosts.dealloc_token heap
