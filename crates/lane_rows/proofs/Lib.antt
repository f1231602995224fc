mod Catch
mod Sorted
mod Lesser
