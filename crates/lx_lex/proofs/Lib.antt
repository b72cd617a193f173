mod AllRules
mod CutParts
mod Parts
mod Plain
mod Reversal
mod Walking
