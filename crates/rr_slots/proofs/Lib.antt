mod ThreadLaws
mod HolderLaws
mod PlainLaws
mod PoolLaws
mod Queues
