mod Bounds
mod Digits
mod LinksFrom
mod SheetText
mod Unwritten
