mod Answering
mod Granting
mod Rising
mod Rowwise
mod Tightening
