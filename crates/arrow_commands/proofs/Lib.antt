mod Extended
mod Masks
mod ValueLists
