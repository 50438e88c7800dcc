use Rattle.rr_shared_ports.proofs.sliced.writing.fn.Claimed+N+RequestMutUninit+SliceBody+T.write_from_fn.became.Goals as goal

-- the function may be called for any length
pub write_from_fn-requires : goal.write_from_fn-requires
write_from_fn-requires g c = record { kind = c.requires.0; callable = λ len asked. c.requires.1 len }
